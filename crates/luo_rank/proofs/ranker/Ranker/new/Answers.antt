use Rattle.luo_rank.proofs.RankerLemmas.{looks_at, looks_node, counts_to}
use Rattle.luo_rank.proofs.ranker.Ranker.new.Goals as goal

pub entry-count-requires-clause-node : goal.entry-count-requires-clause-node
entry-count-requires-clause-node c = looks_node c.in_ok-tables.tables c.args.ranks.now c.args.node c.args.n c.in_ok-tables.ensures.program c.requires.node

pub invariant_of-result : goal.invariant_of-result
invariant_of-result c = looks_at c.in_ok-tables.tables c.args.ranks.now c.in_ok-labels.labels c.args.node c.args.n c.entry-count.result c.in_ok-tables.ensures.looked c.in_ok-tables.ensures.program c.requires.node c.in_ok-labels.ensures c.entry-count.ensures

pub returns-clause-count : goal.returns-clause-count
returns-clause-count c = counts_to c.in_ok-tables.tables c.args.ranks.now c.args.node c.args.n c.entry-count.result c.in_ok-tables.ensures.looked c.in_ok-tables.ensures.program c.requires.node c.entry-count.ensures
