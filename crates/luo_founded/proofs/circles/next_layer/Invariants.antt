use Rattle.std.proofs.Common.{ℕ}
use Rattle.luo_founded.specs.inner.Marks.{Marked, Marks}
use Rattle.luo_founded.specs.inner.Graph.{Edge}
use Rattle.luo_founded.proofs.circles.next_layer.Given as goal

abbrev pub invariant-loop-targets : goal.invariant-loop-targets
invariant-loop-targets l = Marks (λ x. (y : ℕ) × Edge l.edges x y × Marked l.layer y) l.targets-index l.table
