-- Numbers of a graph that are known to lie on no circle.
use Rattle.std.specs.Prelude.{◌≡◌, ℕ, List, Bool, false, Some, length, slice_get}
use Rattle.luo_finite.specs.Listing.{In}
use Rattle.luo_finite.specs.Walk.{OnCircle}
use Rattle.luo_founded.specs.inner.Marks.{Marked}
use Rattle.luo_founded.specs.inner.Graph.{Edge}

-- x is not marked, and all its targets are
abbrev pub IsLoose : List (List ℕ) → List Bool → ℕ → Type 0
IsLoose edges gone x =
    (targets : List ℕ) × (slice_get edges x ≡ Some targets) × (slice_get gone x ≡ Some false)
    × ((y : ℕ) → In y targets → Marked gone y)

-- what is marked lies on no circle
pub record IsPeeled (edges : List (List ℕ)) (gone : List Bool) : Type 0 where
  pub long : length gone ≡ length edges
  pub free : (x : ℕ) → Marked gone x → OnCircle (Edge edges) x → ⊥
