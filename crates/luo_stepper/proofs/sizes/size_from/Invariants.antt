use Rattle.std.proofs.Common.{◌-◌, ◌<◌, ◌≤◌, ℕ, suc}
use Rattle.luo_stepper.specs.inner.Stepping.{Fills}
use Rattle.luo_stepper.proofs.sizes.size_from.Given as goal

abbrev pub invariant-loop-size : goal.invariant-loop-size
invariant-loop-size l = (l.size ≤ suc l.n) × (l.start ≤ l.size) × ((k : ℕ) → l.start ≤ k → k < l.size → Fills l.tables l.x l.f l.n k → ⊥)

abbrev pub decreases-loop-size : goal.decreases-loop-size
decreases-loop-size l = suc l.n - l.size
