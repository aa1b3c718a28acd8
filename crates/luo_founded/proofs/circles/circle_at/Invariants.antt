use Rattle.std.proofs.Common.{ℕ, suc, ◌<◌, ◌+◌}
use Rattle.luo_founded.specs.inner.Graph.{Edge}
use Rattle.luo_founded.specs.inner.Layers.{AreLayers}
use Rattle.luo_finite.specs.Walk.{Walk}
use Rattle.luo_founded.proofs.circles.circle_at.Given as goal

abbrev pub invariant-loop-k : goal.invariant-loop-k
invariant-loop-k l = AreLayers l.edges l.home (l.k + 1) l.layers × ((j : ℕ) → j < l.k → Walk (Edge l.edges) (suc j) l.home l.home → ⊥)
