use Rattle.std.proofs.Common.{ℕ}
use Rattle.luo_founded.specs.inner.Marks.{Marked}
use Rattle.luo_finite.proofs.Loops.{AllBefore}
use Rattle.luo_founded.proofs.circles.leads.Given as goal

abbrev pub invariant-loop-y : goal.invariant-loop-y
invariant-loop-y l = AllBefore (λ k (y : ℕ). Marked l.table y → ⊥) l.targets l.y-index
