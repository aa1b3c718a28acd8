use Rattle.std.proofs.Common.{ℕ, ◌<◌}
use Rattle.luo_finite.specs.Listing.{In}
use Rattle.luo_founded.specs.inner.Marks.{Marked}
use Rattle.luo_founded.proofs.circles.least_marked.Given as goal

abbrev pub invariant-loop-y : goal.invariant-loop-y
invariant-loop-y l = (k : ℕ) → k < l.y → In k l.targets → Marked l.table k → ⊥
