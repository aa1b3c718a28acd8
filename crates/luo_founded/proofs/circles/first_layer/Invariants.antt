use Rattle.std.proofs.Common.{◌≡◌}
use Rattle.luo_founded.specs.inner.Marks.{Marks}
use Rattle.luo_founded.proofs.circles.first_layer.Given as goal

abbrev pub invariant-loop-x : goal.invariant-loop-x
invariant-loop-x l = Marks (λ x. x ≡ l.home) l.x l.table
