-- The order of the counts and totals of a source, one sentence a rule.
use Rattle.std.specs.Prelude.{◌≡◌, ℕ, ◌<◌}
use Rattle.luo_model.specs.declared.table.Entry.{Entry}
use Rattle.luo_model.specs.declared.table.Entry.TheVariants.{Count, Total}
use Rattle.luo_source.specs.Plain.Source.{Source}
use Rattle.luo_meaning.specs.Entries.{HasRank, HasLevel, Precedes, IsEarlier}

-- a lesser size comes first, whatever the entries
abbrev pub LesserSizesComeFirst : Type 0
LesserSizesComeFirst =
    (source : Source) (a b : Entry) (m n : ℕ) → m < n → IsEarlier source a m b n
    × (IsEarlier source b n a m → ⊥)

-- at one size counts come before totals
abbrev pub CountsComeFirst : Type 0
CountsComeFirst =
    (source : Source) (x i n : ℕ) → IsEarlier source (Count x) n (Total i) n
    × (IsEarlier source (Total i) n (Count x) n → ⊥)

-- counts by rank, whatever the constructs, and those of one rank as they are in the source
abbrev pub CountsGoByRank : Type 0
CountsGoByRank =
    (source : Source) (x y r q : ℕ) → HasRank source (Count x) r → HasRank source (Count y) q
    → (r < q → Precedes source (Count x) (Count y))
    × (r ≡ q → x < y → Precedes source (Count x) (Count y))

-- totals by rank, whatever the levels and the sites
abbrev pub TotalsGoByRank : Type 0
TotalsGoByRank =
    (source : Source) (i j r q l m : ℕ) → HasRank source (Total i) r → HasRank source (Total j) q
    → HasLevel source i l → HasLevel source j m → r < q → Precedes source (Total i) (Total j)

-- those of one rank by level, whatever the sites, and those of one level as they are in the source
abbrev pub TotalsGoByLevel : Type 0
TotalsGoByLevel =
    (source : Source) (i j r l m : ℕ) → HasRank source (Total i) r → HasRank source (Total j) r
    → HasLevel source i l → HasLevel source j m
    → (l < m → Precedes source (Total i) (Total j))
    × (l ≡ m → i < j → Precedes source (Total i) (Total j))
