-- The entries of a table in their order, and the first of them that overflows.
use Rattle.std.specs.Prelude.{◌≡◌, ◌⊎◌, ℕ, ◌<◌, ◌≤◌, length}
use Rattle.luo_num.specs.declared.TheConstants.{MAX}
use Rattle.luo_model.specs.declared.table.Entry.{Entry}
use Rattle.luo_model.specs.declared.table.Entry.TheVariants.{Count, Total}
use Rattle.luo_model.specs.declared.table.Fill.{Fill}
use Rattle.luo_model.specs.declared.table.Fill.TheVariants.{All}
use Rattle.luo_model.specs.Program.{Program, site_node}
use Rattle.luo_model.specs.Tables.{IsCount, IsTotal}
use Rattle.luo_model.specs.Levels.{IsRank, IsLevel}

-- the node or the site is there
abbrev pub IsThere : Program → Entry → Type 0
IsThere p (Count x) = x < length p.nodes
IsThere p (Total i) = i < length p.sites

-- a table so filled has this entry: totals stand only where all is filled
abbrev pub Has : Fill → Entry → Type 0
Has fill (Count x) = Unit {0}
Has fill (Total i) = fill ≡ All

-- the number of the entry at size n
abbrev pub IsNumber : Program → Entry → ℕ → ℕ → Type 0
IsNumber p (Count x) n v = IsCount p x n v
IsNumber p (Total i) n v = IsTotal p i n v

-- a is less, or they are equal and the rest says which comes first
abbrev pub LessOr : ℕ → ℕ → Type 0 → Type 0
LessOr a b rest = (a < b) ⊎ ((a ≡ b) × rest)

-- at one size all counts come first, by rank and then by node; then all totals, by the rank of the
-- site's node, then by level, then by site
abbrev pub Precedes : Program → Entry → Entry → Type 0
Precedes p (Count x) (Count y) =
    (r : ℕ) × (q : ℕ) × IsRank p x r × IsRank p y q × LessOr r q (x < y)
Precedes p (Count x) (Total j) = Unit {0}
Precedes p (Total i) (Count y) = ⊥
Precedes p (Total i) (Total j) =
    (r : ℕ) × (q : ℕ) × (l : ℕ) × (m : ℕ) × IsRank p (site_node p i) r × IsRank p (site_node p j) q
    × IsLevel p i l × IsLevel p j m
    × LessOr r q (LessOr l m (i < j))

-- entries come by size, and those of one size in that order
abbrev pub IsEarlier : Program → Entry → ℕ → Entry → ℕ → Type 0
IsEarlier p other m entry n = LessOr m n (Precedes p other entry)

-- of the entries of the sizes up to the last, this one at size n is the first whose number is past
-- the greatest number of tables
pub record IsFirstOver (p : Program) (last : ℕ) (fill : Fill) (entry : Entry) (n : ℕ) : Type 0 where
  pub there : IsThere p entry
  pub had : Has fill entry
  pub within : n ≤ last
  pub over : (v : ℕ) × IsNumber p entry n v × (MAX < v)
  pub earlier : (other : Entry) (m v : ℕ) → IsThere p other → Has fill other
      → IsEarlier p other m entry n → IsNumber p other m v → v ≤ MAX

-- no number of size n overflows
abbrev pub NoneOver : Program → Fill → ℕ → Type 0
NoneOver p fill n =
    (entry : Entry) (v : ℕ) → IsThere p entry → Has fill entry → IsNumber p entry n v → v ≤ MAX
