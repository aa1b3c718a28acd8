use Rattle.std.proofs.Common.{◌≡◌}
use Rattle.luo_num.specs.Mark.{capped}
use Rattle.luo_unlabelled.specs.inner.Planes.{sum_from, top_total}
use Rattle.luo_unlabelled.proofs.plane.total_within.Given as goal

abbrev pub invariant-loop-k : goal.invariant-loop-k
invariant-loop-k l = l.sum ≡ capped (sum_from l.low l.k (top_total l.cells l.wide l.n l.here))
