use Rattle.std.proofs.Common.{◌≡◌, ℕ, Some, slice_get}
use Rattle.luo_model.specs.declared.program.Part.{Part}
use Rattle.luo_founded.specs.inner.Marks.{Marked}
use Rattle.luo_finite.proofs.Gathered.{Gathers}
use Rattle.luo_founded.proofs.steps.lone_parts.Given as goal

abbrev pub invariant-loop-i : goal.invariant-loop-i
invariant-loop-i l = Gathers (λ i (part : Part) y. (part.node ≡ y) × ((k : ℕ) (other : Part) → slice_get l.parts k ≡ Some other → (k ≡ i → ⊥) → Marked l.table other.node)) l.parts l.i l.nodes
