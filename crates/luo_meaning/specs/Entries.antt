-- The counts and totals of a source one by one: what they are called, their order, and the first
-- one that is too large.
use Rattle.std.specs.Prelude.{◌≡◌, ◌⊎◌, ℕ, zero, suc, ◌+◌, ◌<◌, ◌≤◌, ◌++◌, List, [], ◌∷◌, flat_map, codes, decimal, Some, slice_get}
use Rattle.luo_num.specs.declared.TheConstants.{MAX}
use Rattle.luo_model.specs.declared.table.Entry.{Entry}
use Rattle.luo_model.specs.declared.table.Entry.TheVariants.{Count, Total}
use Rattle.luo_model.specs.declared.table.Fill.{Fill}
use Rattle.luo_model.specs.declared.table.Fill.TheVariants.{All}
use Rattle.luo_source.specs.Plain.Types.{TypeExpr}
use Rattle.luo_source.specs.Plain.Source.{ProcDef, Source}
use Rattle.luo_rules.specs.Definitions.{Definition, definitions}
use Rattle.luo_meaning.specs.Places.{Placed, constructs_in}
use Rattle.luo_meaning.specs.Ranks.{IsRankOf}
use Rattle.luo_meaning.specs.Rows.{IsCountOf, IsTotalOf}
use Rattle.luo_meaning.specs.Sites.{sites_in, SomeSiteOf}

-- ---- what has a count, and what has a total

-- type expressions at these places, one after the other
abbrev pub placed : List ℕ → ℕ → List TypeExpr → List Placed
placed text place [] = []
placed text place (e ∷ es) =
    record { name = text; place = place; form = e } ∷ placed text (suc place) es

abbrev pub constructs_of : Definition → List Placed
constructs_of d = placed d.name.text 0 (constructs_in d.right)

-- the constructs of a source in the order of the names that it defines, each name with a copy of
-- its right side
abbrev pub constructs : Source → List Placed
constructs source = flat_map constructs_of (definitions source)

-- so many places from this one on, each with the name of its procedure
abbrev pub places : List ℕ → ℕ → ℕ → List (List ℕ × ℕ)
places text place zero = []
places text place (suc n) = (text, place) ∷ places text (suc place) n

-- a procedure has a place for each site in its body, and a last one for its whole
abbrev pub places_of : ProcDef → List (List ℕ × ℕ)
places_of p = places p.name.text 0 (sites_in p.body + 1)

-- the sites of a source by their procedures' names and their places there
abbrev pub site_places : Source → List (List ℕ × ℕ)
site_places source = flat_map places_of source.procs

-- ---- an entry is the count of a construct, or the total of a site, by its number in the source

-- `t.0`
abbrev pub place_text : List ℕ → ℕ → List ℕ
place_text name place = name ++ codes "." ++ decimal place

-- what an entry is called: `count of t.0`, `total of p.1`
abbrev pub IsEntryText : Source → Entry → List ℕ → Type 0
IsEntryText source (Count x) text =
    (c : Placed) × (slice_get (constructs source) x ≡ Some c)
    × (text ≡ codes "count of " ++ place_text c.name c.place)
IsEntryText source (Total i) text =
    (s : List ℕ × ℕ) × (slice_get (site_places source) i ≡ Some s)
    × (text ≡ codes "total of " ++ place_text s.0 s.1)

-- the number of an entry at size n
abbrev pub IsNumberOf : Source → Entry → ℕ → ℕ → Type 0
IsNumberOf source (Count x) n v =
    (c : Placed) × (slice_get (constructs source) x ≡ Some c) × IsCountOf source c.form n v
IsNumberOf source (Total i) n v =
    SomeSiteOf source (λ number e charges level. (number ≡ i) × IsTotalOf source e charges n v)

-- the rank of a construct, and of the type of a site's variable
abbrev pub HasRank : Source → Entry → ℕ → Type 0
HasRank source (Count x) r =
    (c : Placed) × (slice_get (constructs source) x ≡ Some c) × IsRankOf source c.form r
HasRank source (Total i) r =
    SomeSiteOf source (λ number e charges level. (number ≡ i) × IsRankOf source e r)

-- the level of a site
abbrev pub HasLevel : Source → ℕ → ℕ → Type 0
HasLevel source i l = SomeSiteOf source (λ number e charges level. (number ≡ i) × level l)

-- ---- their order

-- a is less, or they are equal and the rest says which comes first
abbrev pub LessOr : ℕ → ℕ → Type 0 → Type 0
LessOr a b rest = (a < b) ⊎ ((a ≡ b) × rest)

-- at one size all counts come first, by rank and then as they stand; then all totals, by rank, then
-- by level, and then as they stand
abbrev pub Precedes : Source → Entry → Entry → Type 0
Precedes source (Count x) (Count y) =
    (r : ℕ) × (q : ℕ) × HasRank source (Count x) r × HasRank source (Count y) q × LessOr r q (x < y)
Precedes source (Count x) (Total j) = Unit {0}
Precedes source (Total i) (Count y) = ⊥
Precedes source (Total i) (Total j) =
    (r : ℕ) × (q : ℕ) × (l : ℕ) × (m : ℕ) × HasRank source (Total i) r × HasRank source (Total j) q
    × HasLevel source i l × HasLevel source j m
    × LessOr r q (LessOr l m (i < j))

-- entries come by size, and those of one size in that order
abbrev pub IsEarlier : Source → Entry → ℕ → Entry → ℕ → Type 0
IsEarlier source other m entry n = LessOr m n (Precedes source other entry)

-- totals are there where all is filled
abbrev pub Has : Fill → Entry → Type 0
Has fill (Count x) = Unit {0}
Has fill (Total i) = fill ≡ All

-- of the entries of the sizes up to the last, this one at size n is the first whose number is past
-- the greatest number of tables
pub record IsFirstOver (source : Source) (last : ℕ) (fill : Fill) (entry : Entry)
    (n : ℕ) : Type 0 where
  pub had : Has fill entry
  pub within : n ≤ last
  pub over : (v : ℕ) × IsNumberOf source entry n v × (MAX < v)
  pub earlier : (other : Entry) (m v : ℕ) → Has fill other → IsEarlier source other m entry n
      → IsNumberOf source other m v → v ≤ MAX
