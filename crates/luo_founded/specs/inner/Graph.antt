-- Graphs of numbers, held as the targets of each, and the circle that is named in one.
use Rattle.std.specs.Prelude.{◌≡◌, ◌↔◌, ℕ, zero, suc, ◌<◌, ◌≤◌, List, [], ◌∷◌, Bool, Some, length, slice_get}
use Rattle.luo_finite.specs.Listing.{In}
use Rattle.luo_founded.specs.inner.Marks.{Marked}
use Rattle.luo_finite.specs.Walk.{Walk}

abbrev pub Edge : List (List ℕ) → ℕ → ℕ → Type 0
Edge edges x y = (targets : List ℕ) × (slice_get edges x ≡ Some targets) × In y targets

-- the edges are exactly the steps of R, each to a number below n
pub record IsGraph (R : ℕ → ℕ → Type 0) (n : ℕ) (edges : List (List ℕ)) : Type 0 where
  pub long : length edges ≡ n
  pub sound : (x y : ℕ) → Edge edges x y → R x y
  pub complete : (x y : ℕ) → R x y → Edge edges x y
  pub within : (x y : ℕ) → R x y → y < n

-- from exactly the marked numbers a walk of k steps leads to home
abbrev pub IsLayer : List (List ℕ) → ℕ → ℕ → List Bool → Type 0
IsLayer edges home k table = (x : ℕ) → Marked table x ↔ Walk (Edge edges) k x home

-- the least of these targets that is marked
pub record IsLeastMarked (targets : List ℕ) (table : List Bool) (y : ℕ) : Type 0 where
  pub target : In y targets
  pub marked : Marked table y
  pub least : (other : ℕ) → In other targets → Marked table other → y ≤ other

-- the least marked number to which an edge leads
pub record IsLeastStep (edges : List (List ℕ)) (table : List Bool) (x y : ℕ) : Type 0 where
  pub edge : Edge edges x y
  pub marked : Marked table y
  pub least : (other : ℕ) → Edge edges x other → Marked table other → y ≤ other

module _ (R : ℕ → ℕ → Type 0) (home : ℕ) where
  -- the list is a walk of k steps that ends at home
  abbrev pub IsWay : ℕ → ℕ → List ℕ → Type 0
  IsWay zero at way = (at ≡ home) × (way ≡ at ∷ [])
  IsWay (suc k) at [] = ⊥
  IsWay (suc k) at (x ∷ rest) = (x ≡ at) × ((z : ℕ) × R at z × IsWay k z rest)

  -- and each of its steps goes to the least number from which so many steps lead home
  abbrev pub IsFirstWay : ℕ → ℕ → List ℕ → Type 0
  IsFirstWay zero at way = (at ≡ home) × (way ≡ at ∷ [])
  IsFirstWay (suc k) at [] = ⊥
  IsFirstWay (suc k) at (x ∷ rest) =
      (x ≡ at) × ((z : ℕ) × R at z × ((other : ℕ) → R at other → Walk R k other home → z ≤ other)
      × IsFirstWay k z rest)

-- the chain is a circle through home of the fewest steps, and the first of these
abbrev pub IsShortCircle : (ℕ → ℕ → Type 0) → ℕ → List ℕ → Type 0
IsShortCircle R home chain =
    (k : ℕ) × IsFirstWay R home (suc k) home chain
    × ((j : ℕ) → j < k → Walk R (suc j) home home → ⊥)
