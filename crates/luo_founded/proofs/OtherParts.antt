-- The parts of a construct around one of them.
use Rattle.std.proofs.Common.{◌≡◌, ℕ, List, ◌∷◌, ◌++◌, ⊎_elim, length, refl, sym, ◌∙◌, ap, Some, slice_get}
use Rattle.luo_finite.specs.Listing.{In}
use Rattle.luo_finite.proofs.Places.{around_place, at_place}
use Rattle.luo_model.specs.declared.program.Part.{Part}

pub others_by_place : (Z : ℕ → Type 0) (parts before : List Part) (part : Part) (after : List Part) → parts ≡ before ++ part ∷ after → ((other : Part) → In other before → Z other.node) → ((other : Part) → In other after → Z other.node)
    → (i : ℕ) × (found : Part) × (slice_get parts i ≡ Some found) × (found.node ≡ part.node) × ((k : ℕ) (other : Part) → slice_get parts k ≡ Some other → (k ≡ i → ⊥) → Z other.node)
others_by_place Z parts before part after e a b = (
  length before,
  part,
  ap (λ l. slice_get l (length before)) e ∙ at_place before after part,
  refl,
  λ k other g n. ⊎_elim (λ i. a other i) (λ i. b other i) (around_place before after part other k (sym (ap (λ l. slice_get l k) e) ∙ g) n),
)
