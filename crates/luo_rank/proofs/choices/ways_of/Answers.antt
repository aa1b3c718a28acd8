use Rattle.luo_rank.proofs.PlaneLemmas.{chosen_none, chosen_some}
use Rattle.luo_rank.proofs.choices.ways_of.Goals as goal

pub returns-then-j-eq0 : goal.returns-then-j-eq0
returns-then-j-eq0 c = chosen_none c.args.kind c.args.c c.args.j c.requires.bag c.in_default.not-Powerset c.if-j-eq0.true

pub returns-else-j-eq0 : goal.returns-else-j-eq0
returns-else-j-eq0 c = chosen_some c.args.kind c.args.c c.args.j c.binomial-else-j-eq0.result c.requires.bag c.in_default.not-Powerset c.if-j-eq0.false c.binomial-else-j-eq0.ensures
