-- Weights of several numbers, multiplied by a table.
use Rattle.std.specs.Prelude.{◌≡◌, ℕ, ◌*◌, List, [], ◌∷◌}
use Rattle.luo_finite.specs.Listing.{Sums}
use Rattle.luo_finite.specs.Each.{total}

-- the number at a slot of a product is a sum of products, over pairs of slots that a table names
abbrev pub times : {I : Type 0} → (I → List (I × I)) → (I → ℕ) → (I → ℕ) → I → ℕ
times table x y k = total (λ z. x z.0 * y z.1) (table k)

pub record Algebra : Type 1 where
  pub Slot : Type 0
  pub table : Slot → List (Slot × Slot)
  pub one : Slot → ℕ

-- one is a unit on the left, and products may be bracketed either way
pub record IsAlgebra (K : Algebra) : Type 0 where
  pub unit_left : (x : K.Slot → ℕ) (k : K.Slot) → times K.table K.one x k ≡ x k
  pub joins : (x y z : K.Slot → ℕ) (k : K.Slot)
      → times K.table (times K.table x y) z k ≡ times K.table x (times K.table y z) k

-- the weights W of what P holds of sum to r, slot by slot
abbrev pub Measured : (K : Algebra) → {A : Type 0} → (A → Type 0) → (A → K.Slot → ℕ) → (K.Slot → ℕ)
    → Type 0
Measured K P W r = (k : K.Slot) → Sums P (λ x. W x k) (r k)

-- the product of the weights of a list
abbrev pub product : (K : Algebra) → {A : Type 0} → (A → K.Slot → ℕ) → List A → K.Slot → ℕ
product K W [] k = K.one k
product K W (x ∷ xs) k = times K.table (W x) (product K W xs) k
