-- What a source that breaks no rule means is kept by its core form.
use Rattle.std.specs.Prelude.{◌≡◌, ◌⊎◌, ◌↔◌, ℕ, ◌<◌, ◌≤◌, ◌+◌, List, [], ◌∷◌, ◌++◌, Some, slice_get, length, codes}
use Rattle.luo_finite.specs.Listing.{In}
use Rattle.luo_model.specs.declared.program.Def.{Def}
use Rattle.luo_model.specs.declared.program.Node.{Node}
use Rattle.luo_model.specs.declared.program.Site.{Site}
use Rattle.luo_model.specs.declared.table.Entry.TheVariants.{Count, Total}
use Rattle.luo_model.specs.declared.table.Row.{Row}
use Rattle.luo_model.specs.Tree.{Tree}
use Rattle.luo_model.specs.Founded.{IsFounded}
use Rattle.luo_model.specs.Levels.{IsRank, IsLevel}
use Rattle.luo_model.specs.Program.{Program, Procedure, site_node}
use Rattle.luo_model.specs.Member.{Member}
use Rattle.luo_model.specs.Charges.{Charges}
use Rattle.luo_model.specs.Tables.{IsCount, IsTotal, IsRow}
use Rattle.luo_source.specs.declared.names.Name.{Name}
use Rattle.luo_source.specs.Plain.Types.{TypeExpr, Named}
use Rattle.luo_source.specs.Plain.Source.{ProcDef, Source}
use Rattle.luo_rules.specs.declared.rule.Breach.{Breach}
use Rattle.luo_rules.specs.Checks.{IsSource, IsChecked, BreaksFirst}
use Rattle.luo_rules.specs.Whole.{IsCore, walk_count, breaches}
use Rattle.luo_meaning.specs.Structures.{IsOf}
use Rattle.luo_meaning.specs.Charges.{ProcCharges}
use Rattle.luo_interp.specs.Makes.{Makes}
use Rattle.luo_meaning.specs.Made.{ProcMakes}
use Rattle.luo_meaning.specs.Constructs.{IsConstructOf}
use Rattle.luo_meaning.specs.Rows.{IsRowOf, AreTablesOf}
use Rattle.luo_meaning.specs.Entries.{place_text, IsEntryText, IsNumberOf, HasRank, HasLevel}
use Rattle.luo_meaning.specs.Over.{HasCount, HasTotal, HasOver}
use Rattle.luo_meaning.specs.Walks.{ProcsWalk}
use Rattle.luo_meaning.specs.Broken.{IsBrokenIn, IsFirstBrokenIn, BreaksNothingIn}

-- the members of a definition's node are the structures of its name
abbrev pub StructuresAreKept : Type 0
StructuresAreKept =
    (source : Source) (p : Program) → IsSource source → IsCore source p
    → (i : ℕ) (d : Def) (name : Name) → slice_get p.defs i ≡ Some d → d.name ≡ name.text
    → (t : Tree) → Member p d.whole.node t ↔ IsOf source (Named name) t

-- the members of each node are the structures of a construct of the source, and each construct has
-- a node of which they are the members
abbrev pub ConstructsAreKept : Type 0
ConstructsAreKept =
    (source : Source) (p : Program) → IsSource source → IsCore source p
    → ((x : ℕ) → x < length p.nodes
    → (e : TypeExpr) × IsConstructOf source e × ((t : Tree) → Member p x t ↔ IsOf source e t))
    × ((e : TypeExpr) → IsConstructOf source e
    → (x : ℕ) × (x < length p.nodes) × ((t : Tree) → Member p x t ↔ IsOf source e t))

-- a procedure charges what the one of its name does
abbrev pub ChargesAreKept : Type 0
ChargesAreKept =
    (source : Source) (p : Program) → IsSource source → IsCore source p → (f : ℕ) (P : Procedure)
    → slice_get p.procs f ≡ Some P
    → (t : Tree) (q : ℕ) → Charges p f t q ↔ ProcCharges source P.name t q

-- a procedure makes what the one of its name does
abbrev pub MadeIsKept : Type 0
MadeIsKept =
    (source : Source) (p : Program) → IsSource source → IsCore source p → (f : ℕ) (P : Procedure)
    → slice_get p.procs f ≡ Some P
    → (t r : Tree) → Makes p f t r ↔ ProcMakes source P.name t r

-- a number is the count of some node exactly where it is that of some construct
abbrev pub CountsAreKept : Type 0
CountsAreKept =
    (source : Source) (p : Program) → IsSource source → IsCore source p → (n c : ℕ)
    → ((x : ℕ) × (x < length p.nodes) × IsCount p x n c) ↔ HasCount source n c

-- a number is the total of some site exactly where it is that of some site of the source
abbrev pub TotalsAreKept : Type 0
TotalsAreKept =
    (source : Source) (p : Program) → IsSource source → IsChecked source p → (n t : ℕ)
    → ((i : ℕ) × (i < length p.sites) × IsTotal p i n t) ↔ HasTotal source n t

-- the rows of a procedure are those of the one in its place of the source
abbrev pub RowsAreKept : Type 0
RowsAreKept =
    (source : Source) (p : Program) → IsSource source → IsChecked source p → (f : ℕ) (d : ProcDef)
    → slice_get source.procs f ≡ Some d
    → (row : Row) → IsRow p f row ↔ IsRowOf source d row

-- rows of procedure f for the sizes n, n + 1, ..
abbrev pub AreRows : Program → ℕ → ℕ → List Row → Type 0
AreRows p f n [] = Unit {0}
AreRows p f n (row ∷ rows) = (row.n ≡ n) × IsRow p f row × AreRows p f (n + 1) rows

-- for each procedure a table: its rows for the sizes 0 to `last`
abbrev pub AreTables : Program → ℕ → List ℕ → List (List Row) → Type 0
AreTables p last [] [] = Unit {0}
AreTables p last (f ∷ fs) (rows ∷ tables) =
    ((length rows ≡ last + 1) × AreRows p f 0 rows) × AreTables p last fs tables
AreTables p last _ _ = ⊥

-- the tables of the analyze lines are those of the source
abbrev pub TablesAreKept : Type 0
TablesAreKept =
    (source : Source) (p : Program) → IsSource source → IsChecked source p
    → (last : ℕ) (tables : List (List Row))
    → AreTables p last p.analyses tables ↔ AreTablesOf source last source.analyses tables

-- a procedure has the name that it has in the source, and its parameter's part names the definition
-- of the type's name
abbrev pub HeadingsAreKept : Type 0
HeadingsAreKept =
    (source : Source) (p : Program) → IsSource source → IsCore source p
    → (f : ℕ) (d : ProcDef) (P : Procedure) → slice_get source.procs f ≡ Some d
    → slice_get p.procs f ≡ Some P
    → (P.name ≡ d.name.text)
    × ((i : ℕ) × (v : Def) × (P.on.name ≡ Some i) × (slice_get p.defs i ≡ Some v)
    × (v.name ≡ d.on.text))

-- some count or total of a size up to `last` is above `most`
abbrev pub IsOver : Program → ℕ → ℕ → Type 0
IsOver p most last =
    (n : ℕ) × (v : ℕ) × (n ≤ last) × (most < v)
    × (((x : ℕ) × (x < length p.nodes) × IsCount p x n v)
    ⊎ ((i : ℕ) × (i < length p.sites) × IsTotal p i n v))

-- a number of the core form is too large exactly where one of the source is
abbrev pub OverIsKept : Type 0
OverIsKept =
    (source : Source) (p : Program) → IsSource source → IsChecked source p → (most last : ℕ)
    → IsOver p most last ↔ HasOver source most last

-- as many walks over multisets and powersets
abbrev pub WalksAreKept : Type 0
WalksAreKept =
    (source : Source) (p : Program) → IsSource source → IsCore source p → (n : ℕ)
    → (n ≡ walk_count p) ↔ ProcsWalk source source.procs n

-- the count of a node is that of the construct of its number, and the total of a site that of the
-- source's site of its number
abbrev pub NumbersAreKept : Type 0
NumbersAreKept =
    (source : Source) (p : Program) → IsSource source → IsChecked source p
    → ((x n v : ℕ) → ((x < length p.nodes) × IsCount p x n v) ↔ IsNumberOf source (Count x) n v)
    × ((i n v : ℕ) → ((i < length p.sites) × IsTotal p i n v) ↔ IsNumberOf source (Total i) n v)

-- where the core form is founded, its nodes and sites have the ranks, and its sites the levels, of
-- the source
abbrev pub OrderIsKept : Type 0
OrderIsKept =
    (source : Source) (p : Program) → IsSource source → IsChecked source p → IsFounded p
    → ((x r : ℕ) → ((x < length p.nodes) × IsRank p x r) ↔ HasRank source (Count x) r)
    × ((i r : ℕ) → ((i < length p.sites) × IsRank p (site_node p i) r) ↔ HasRank source (Total i) r)
    × ((i l : ℕ) → ((i < length p.sites) × IsLevel p i l) ↔ HasLevel source i l)

-- what the count of node x is called: by the node's definition, and its place there
abbrev pub IsNodeText : Program → ℕ → List ℕ → Type 0
IsNodeText p x text =
    (node : Node) × (d : Def) × (slice_get p.nodes x ≡ Some node)
    × (slice_get p.defs node.owner ≡ Some d)
    × (text ≡ codes "count of " ++ place_text d.name node.place)

-- and the total of site i: by the site's procedure, and its place there
abbrev pub IsSiteText : Program → ℕ → List ℕ → Type 0
IsSiteText p i text =
    (site : Site) × (P : Procedure) × (slice_get p.sites i ≡ Some site)
    × (slice_get p.procs site.caller ≡ Some P)
    × (text ≡ codes "total of " ++ place_text P.name site.place)

-- they are called as in the source
abbrev pub EntryNamesAreKept : Type 0
EntryNamesAreKept =
    (source : Source) (p : Program) → IsSource source → IsChecked source p
    → ((x : ℕ) (text : List ℕ) → IsNodeText p x text ↔ IsEntryText source (Count x) text)
    × ((i : ℕ) (text : List ℕ) → IsSiteText p i text ↔ IsEntryText source (Total i) text)

-- the breaches that are listed are those of the source as it is written, of every source of a text
abbrev pub BrokenIsKept : Type 0
BrokenIsKept =
    (source : Source) → IsSource source → (b : Breach)
    → In b (breaches source) ↔ IsBrokenIn source b

-- and the first of the list is the first that it breaks
abbrev pub FirstBrokenIsKept : Type 0
FirstBrokenIsKept =
    (source : Source) → IsSource source → (b : Breach)
    → BreaksFirst source b ↔ IsFirstBrokenIn source b

-- nothing is listed exactly where nothing is broken
abbrev pub NothingBrokenIsKept : Type 0
NothingBrokenIsKept =
    (source : Source) → IsSource source → (breaches source ≡ []) ↔ BreaksNothingIn source
