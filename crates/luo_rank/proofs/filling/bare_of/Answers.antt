use Rattle.luo_rank.proofs.FillLemmas.{counted_from}
use Rattle.luo_rank.proofs.filling.bare_of.Goals as goal

pub invariant_of-result : goal.invariant_of-result
invariant_of-result c = counted_from c.program-program.result.now c.args.ranks.now c.args.counts.now.program c.args.last c.in_ok-pascal.pascal c.node_count-nodes.result c.in_ok-rank_row.rank_row c.in_ok-count_rows.count_rows _ _
    c.program-program.ensures.same c.requires.same c.node_count-nodes.ensures.count c.node_count-nodes.ensures.proper c.program-program.ensures.founded c.requires.few c.in_ok-pascal.ensures c.in_ok-rank_row.ensures c.in_ok-count_rows.ensures

pub returns-clause-counted : goal.returns-clause-counted
returns-clause-counted c = counted_from c.program-program.result.now c.args.ranks.now c.args.counts.now.program c.args.last c.in_ok-pascal.pascal c.node_count-nodes.result c.in_ok-rank_row.rank_row c.in_ok-count_rows.count_rows _ _
    c.program-program.ensures.same c.requires.same c.node_count-nodes.ensures.count c.node_count-nodes.ensures.proper c.program-program.ensures.founded c.requires.few c.in_ok-pascal.ensures c.in_ok-rank_row.ensures c.in_ok-count_rows.ensures
