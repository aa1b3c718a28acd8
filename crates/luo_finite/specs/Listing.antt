-- Lists without doubles that hold exactly what a predicate holds of, and sums over them.
use Rattle.std.specs.Prelude.{◌≡◌, ℕ, List, [], ◌∷◌, ◌⊎◌, length, sum, sum_by}
use Rattle.std.specs.List.{AllZip}

-- x is an element of the list
abbrev pub In : {A : Type 0} → A → List A → Type 0
In x [] = ⊥
In x (y ∷ ys) = (x ≡ y) ⊎ In x ys

-- no element stands twice
abbrev pub NoDouble : {A : Type 0} → List A → Type 0
NoDouble [] = Unit {0}
NoDouble (x ∷ xs) = (In x xs → ⊥) × NoDouble xs

-- each element is so related to all after it
abbrev pub Pairwise : {A : Type 0} → (A → A → Type 0) → List A → Type 0
Pairwise R [] = Unit {0}
Pairwise {A} R (x ∷ xs) = ((y : A) → In y xs → R x y) × Pairwise R xs

-- each element is so related to the next
abbrev pub Neighbours : {A : Type 0} → (A → A → Type 0) → List A → Type 0
Neighbours R [] = Unit {0}
Neighbours R (x ∷ []) = Unit {0}
Neighbours R (x ∷ (y ∷ rest)) = R x y × Neighbours R (y ∷ rest)

-- l has no doubles and holds exactly what P holds of
pub record Lists {A : Type 0} (P : A → Type 0) (l : List A) : Type 0 where
  pub single : NoDouble l
  pub sound : (x : A) → In x l → P x
  pub complete : (x : A) → P x → In x l

-- a listing of P exists, and each has length c
pub record Counts {A : Type 0} (P : A → Type 0) (c : ℕ) : Type 0 where
  pub exists : (l : List A) × Lists P l
  pub each : (l : List A) → Lists P l → length l ≡ c

-- a listing of P exists, and over each the numbers w sum to t
pub record Sums {A : Type 0} (P : A → Type 0) (w : A → ℕ) (t : ℕ) : Type 0 where
  pub exists : (l : List A) × Lists P l
  pub each : (l : List A) → Lists P l → sum_by w l ≡ t

-- a listing of P exists, and over each the numbers that R relates to its elements, one to each, sum
-- to t
pub record Totals {A : Type 0} (P : A → Type 0) (R : A → ℕ → Type 0) (t : ℕ) : Type 0 where
  pub exists : (l : List A) × Lists P l
  pub each : (l : List A) → Lists P l → (qs : List ℕ) × AllZip R l qs × (sum qs ≡ t)
