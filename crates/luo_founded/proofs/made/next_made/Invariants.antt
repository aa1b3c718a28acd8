use Rattle.std.proofs.Common.{◌≡◌, Some, false, slice_get}
use Rattle.luo_model.specs.declared.program.Node.{Node}
use Rattle.luo_founded.specs.inner.Marks.{Marked, Starts}
use Rattle.luo_model.specs.Founded.{IsBuilt}
use Rattle.luo_finite.proofs.Loops.{AllBefore}
use Rattle.luo_founded.proofs.made.next_made.Given as goal

abbrev pub invariant-loop-x : goal.invariant-loop-x
invariant-loop-x l = AllBefore (λ k (node : Node). slice_get l.table k ≡ Some false → IsBuilt (Starts l.empty) (Marked l.table) node.shape → ⊥) l.nodes l.x
