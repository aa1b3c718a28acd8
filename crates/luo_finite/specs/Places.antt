-- The place of a thing in an order: so many things are before it.
use Rattle.std.specs.Prelude.{◌≡◌, ◌⊎◌, ◌<◌, ℕ, List, length}
use Rattle.std.specs.declared.cmp.Ordering.TheVariants.{Less}
use Rattle.std.specs.Cmp.Lexicographic.{slice_cmp}
use Rattle.std.specs.Ordering.{nat_cmp}
use Rattle.luo_finite.specs.Listing.{In, Pairwise, Sums}

-- P holds of x, and of the things that P holds of r are before x
pub record IsPlace {A : Type 0} (P : A → Type 0) (Before : A → A → Type 0) (r : ℕ)
    (x : A) : Type 0 where
  pub there : P x
  pub before : Sums (λ y. P y × Before y x) (λ y. 1) r

-- pairs by the first, and where these are equal by the second
abbrev pub Lex : {A B : Type 0} → (A → A → Type 0) → (B → B → Type 0) → A × B → A × B → Type 0
Lex R S y z = R y.0 z.0 ⊎ ((y.0 ≡ z.0) × S y.1 z.1)

-- lists of numbers by their first difference
abbrev pub Lexical : List ℕ → List ℕ → Type 0
Lexical xs ys = slice_cmp nat_cmp xs ys ≡ Less

-- k of the numbers L, rising
abbrev pub IsChoice : List ℕ → ℕ → List ℕ → Type 0
IsChoice L k C = Pairwise (λ x y. x < y) C × (length C ≡ k) × ((z : ℕ) → In z C → In z L)
