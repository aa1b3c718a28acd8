use Rattle.std.proofs.Common.{◌≡◌}
use Rattle.luo_num.specs.Mark.{capped}
use Rattle.luo_unlabelled.specs.inner.Planes.{sum_from, top_count}
use Rattle.luo_unlabelled.proofs.plane.count_within.Given as goal

abbrev pub invariant-loop-k : goal.invariant-loop-k
invariant-loop-k l = l.sum ≡ capped (sum_from l.low l.k (top_count l.ways l.cells l.wide l.n l.here))
