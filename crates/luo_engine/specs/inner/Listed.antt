-- The nodes that are listed so far.
use Rattle.std.specs.Prelude.{◌≡◌, ◌⊎◌, ℕ, ◌<◌, List, length, slice_get, Some}
use Rattle.luo_engine.specs.inner.Filled.{rank_of, IsBefore}

-- a smaller rank than r, or this rank and a number below x
abbrev pub IsEarly : List ℕ → ℕ → ℕ → ℕ → Type 0
IsEarly ranks r x y = (rank_of ranks y < r) ⊎ ((rank_of ranks y ≡ r) × (y < x))

-- the list holds exactly the early nodes, in order
pub record IsListed (ranks order : List ℕ) (r x : ℕ) : Type 0 where
  pub there : (j y : ℕ) → slice_get order j ≡ Some y → (y < length ranks) × IsEarly ranks r x y
  pub complete : (y : ℕ) → y < length ranks → IsEarly ranks r x y
      → (j : ℕ) × (slice_get order j ≡ Some y)
  pub rising : (i j y z : ℕ) → i < j → slice_get order i ≡ Some y → slice_get order j ≡ Some z
      → IsBefore ranks y z

-- totals of one size come by the rank of the site's node, then by level, then by number
abbrev pub IsSiteBefore : List ℕ → List ℕ → ℕ → ℕ → Type 0
IsSiteBefore ranks levels i j =
    (rank_of ranks i < rank_of ranks j)
    ⊎ ((rank_of ranks i ≡ rank_of ranks j) × IsBefore levels i j)

-- a smaller rank than r, or this rank, and a smaller level than l, or this level and a number below
-- i
abbrev pub IsSiteEarly : List ℕ → List ℕ → ℕ → ℕ → ℕ → ℕ → Type 0
IsSiteEarly ranks levels r l i j =
    (rank_of ranks j < r) ⊎ ((rank_of ranks j ≡ r) × IsEarly levels l i j)

-- the list holds exactly the early ones, in order
pub record AreListed (size : ℕ) (Before : ℕ → ℕ → Type 0) (Early : ℕ → Type 0)
    (order : List ℕ) : Type 0 where
  pub there : (j y : ℕ) → slice_get order j ≡ Some y → (y < size) × Early y
  pub complete : (y : ℕ) → y < size → Early y → (j : ℕ) × (slice_get order j ≡ Some y)
  pub rising : (i j y z : ℕ) → i < j → slice_get order i ≡ Some y → slice_get order j ≡ Some z
      → Before y z

abbrev pub AreSitesListed : List ℕ → List ℕ → ℕ → ℕ → ℕ → List ℕ → Type 0
AreSitesListed ranks levels r l i order =
    AreListed (length ranks) (IsSiteBefore ranks levels) (IsSiteEarly ranks levels r l i) order
