-- Longest walks in a graph, by rounds.
use Rattle.std.specs.Prelude.{◌≡◌, ◌⊎◌, ℕ, suc, ◌≤◌, List, Option, Some, None, length, slice_get}
use Rattle.luo_finite.specs.Listing.{In}
use Rattle.luo_founded.specs.inner.Graph.{Edge}
use Rattle.luo_finite.specs.Walk.{Walk, IsLongest}

-- 1 more than a number that is there, else 0
abbrev pub past : Option ℕ → ℕ
past None = 0
past (Some r) = suc r

-- no number of the table is above so much
abbrev pub AreUpTo : ℕ → List ℕ → Type 0
AreUpTo most numbers = (x r : ℕ) → slice_get numbers x ≡ Some r → r ≤ most

-- the greatest of these, and 0 of none
pub record IsMost (targets ranks : List ℕ) (r : ℕ) : Type 0 where
  pub most : (y : ℕ) → In y targets → past (slice_get ranks y) ≤ r
  pub one : (r ≡ 0) ⊎ ((y : ℕ) × In y targets × (r ≡ past (slice_get ranks y)))

-- r is the length of the longest walk from x of at most k steps
pub record IsLongestTo (edges : List (List ℕ)) (k x r : ℕ) : Type 0 where
  pub few : r ≤ k
  pub walk : (y : ℕ) × Walk (Edge edges) r x y
  pub longest : (j y : ℕ) → j ≤ k → Walk (Edge edges) j x y → j ≤ r

pub record AreLongestTo (edges : List (List ℕ)) (k : ℕ) (ranks : List ℕ) : Type 0 where
  pub long : length ranks ≡ length edges
  pub each : (x r : ℕ) → slice_get ranks x ≡ Some r → IsLongestTo edges k x r

pub record AreLongest (edges : List (List ℕ)) (ranks : List ℕ) : Type 0 where
  pub long : length ranks ≡ length edges
  pub each : (x r : ℕ) → slice_get ranks x ≡ Some r → IsLongest (Edge edges) x r
