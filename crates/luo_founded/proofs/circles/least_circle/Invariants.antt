use Rattle.std.proofs.Common.{ℕ, ◌<◌}
use Rattle.luo_founded.specs.inner.Graph.{Edge}
use Rattle.luo_finite.specs.Walk.{OnCircle}
use Rattle.luo_founded.proofs.circles.least_circle.Given as goal

abbrev pub invariant-loop-home : goal.invariant-loop-home
invariant-loop-home l = (x : ℕ) → x < l.home → OnCircle (Edge l.edges) x → ⊥
