use Rattle.std.proofs.Common.{ℕ, ◌<◌}
use Rattle.luo_founded.specs.inner.Marks.{ComponentAt}
use Rattle.luo_founded.proofs.checking.first_empty.Given as goal

abbrev pub invariant-loop-x : goal.invariant-loop-x
invariant-loop-x l = (k : ℕ) → k < l.x → ComponentAt l.nodes l.zero k → ⊥
