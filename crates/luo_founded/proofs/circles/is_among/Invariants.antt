use Rattle.std.proofs.Common.{◌≡◌, ℕ}
use Rattle.luo_finite.proofs.Loops.{AllBefore}
use Rattle.luo_founded.proofs.circles.is_among.Given as goal

abbrev pub invariant-loop-target : goal.invariant-loop-target
invariant-loop-target l = AllBefore (λ k (target : ℕ). target ≡ l.y → ⊥) l.targets l.target-index
