-- The order of entries, one sentence a rule.
use Rattle.std.specs.Prelude.{◌≡◌, ℕ, ◌<◌}
use Rattle.luo_model.specs.declared.table.Entry.{Entry}
use Rattle.luo_model.specs.declared.table.Entry.TheVariants.{Count, Total}
use Rattle.luo_model.specs.Program.{Program, site_node}
use Rattle.luo_model.specs.Levels.{IsRank, IsLevel}
use Rattle.luo_engine.specs.Entries.{Precedes, IsEarlier}

-- a lesser size comes first, whatever the entries
abbrev pub LesserSizesComeFirst : Type 0
LesserSizesComeFirst =
    (p : Program) (a b : Entry) (m n : ℕ) → m < n → IsEarlier p a m b n
    × (IsEarlier p b n a m → ⊥)

-- at one size counts come before totals
abbrev pub CountsComeFirst : Type 0
CountsComeFirst =
    (p : Program) (x i n : ℕ) → IsEarlier p (Count x) n (Total i) n
    × (IsEarlier p (Total i) n (Count x) n → ⊥)

-- counts by rank, whatever the nodes, and those of one rank by node
abbrev pub CountsGoByRank : Type 0
CountsGoByRank =
    (p : Program) (x y r q : ℕ) → IsRank p x r → IsRank p y q
    → (r < q → Precedes p (Count x) (Count y)) × (r ≡ q → x < y → Precedes p (Count x) (Count y))

-- totals by rank, whatever the levels and the sites
abbrev pub TotalsGoByRank : Type 0
TotalsGoByRank =
    (p : Program) (i j r q l m : ℕ) → IsRank p (site_node p i) r → IsRank p (site_node p j) q
    → IsLevel p i l → IsLevel p j m → r < q → Precedes p (Total i) (Total j)

-- those of one rank by level, whatever the sites, and those of one level by site
abbrev pub TotalsGoByLevel : Type 0
TotalsGoByLevel =
    (p : Program) (i j r l m : ℕ) → IsRank p (site_node p i) r → IsRank p (site_node p j) r
    → IsLevel p i l → IsLevel p j m
    → (l < m → Precedes p (Total i) (Total j)) × (l ≡ m → i < j → Precedes p (Total i) (Total j))
