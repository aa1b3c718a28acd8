use Rattle.luo_types.proofs.CircleLemmas.{Goes}
use Rattle.luo_types.proofs.circles.circle.Given as goal

abbrev pub invariant-loop-steps : goal.invariant-loop-steps
invariant-loop-steps l = Goes l.names l.defs l.home l.way l.steps l.at

abbrev pub decreases-loop-steps : goal.decreases-loop-steps
decreases-loop-steps l = l.steps
