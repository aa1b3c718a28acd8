-- The tables of a program's collections, each at the place of its node.
use Rattle.std.specs.Prelude.{◌≡◌, ℕ, suc, ◌+◌, ◌≤◌, ◌<◌, false, List, length, slice_index, slice_index_or, slice_get, Option, Some, None}
use Rattle.luo_model.specs.declared.program.Universe.TheVariants.{Unlabelled}
use Rattle.luo_model.specs.declared.program.Kind.{Kind}
use Rattle.luo_model.specs.declared.program.Kind.TheVariants.{Sequence}
use Rattle.luo_model.specs.declared.program.Part.{Part}
use Rattle.luo_model.specs.declared.program.Shape.{Shape}
use Rattle.luo_model.specs.declared.program.Shape.TheVariants.{Coll}
use Rattle.luo_model.specs.Program.{Program, shape_of}
use Rattle.luo_model.specs.Member.{IsWithin}
use Rattle.luo_model.specs.Tables.{IsCount}
use Rattle.luo_engine.specs.inner.Asked.{Asked, unasked, form_of}

-- the table of node x; a place without one has what no table has been asked
abbrev pub table_or : Option Asked → Asked
table_or (Some c) = c
table_or None = unasked Unlabelled Sequence 0 None 0

abbrev pub table_at : List (Option Asked) → ℕ → Asked
table_at tables x = table_or (slice_index_or tables x None)

-- node x has a table
abbrev pub HasTable : List (Option Asked) → ℕ → Type 0
HasTable tables x = slice_get tables x ≡ Some (Some (table_at tables x))

-- the table is for collections of the part within these bounds, and was given the numbers of
-- components in so many calls, the last of them where one component is within the bounds, and else
-- 0
pub record IsAsked
    (p : Program) (kind : Kind) (part : Part) (low : ℕ) (high : Option ℕ) (n_max calls : ℕ)
    (c : Asked) : Type 0 where
  pub form_is : c.form ≡ form_of p.universe kind low high
  pub universe_is : c.universe ≡ p.universe
  pub kind_is : c.kind ≡ kind
  pub low_is : c.low ≡ low
  pub high_is : c.high ≡ high
  pub n_max_is : c.n_max ≡ n_max
  pub going : c.over ≡ false
  pub calls_are : length c.given ≡ calls
  pub agrees : (m : ℕ) → suc m < calls → IsCount p part.node m (slice_index c.given m)
  pub last_agrees : (m : ℕ) → suc m ≡ calls → IsWithin low high 1
      → IsCount p part.node m (slice_index c.given m)
  pub last_alone : (m : ℕ) → suc m ≡ calls → (IsWithin low high 1 → ⊥) → slice_index c.given m ≡ 0

-- node x has a table, and it has been asked so often
pub record HasAsked
    (p : Program) (n_max : ℕ) (tables : List (Option Asked)) (x low : ℕ) (kind : Kind) (part : Part)
    (high : Option ℕ)
    (calls : ℕ) : Type 0 where
  pub there : HasTable tables x
  pub asked : IsAsked p kind part low high n_max calls (table_at tables x)

-- the collections before place k of the order have answered size n, those from it on the sizes
-- below n, and none with a mark
pub record AreCollections
    (p : Program) (n_max : ℕ) (order : List ℕ) (tables : List (Option Asked))
    (n k : ℕ) : Type 0 where
  pub asked : (j x low : ℕ) (kind : Kind) (part : Part) (high : Option ℕ) → j < k
      → slice_get order j ≡ Some x
      → shape_of p x ≡ Coll kind part low high
      → HasAsked p n_max tables x low kind part high (n + 1)
  pub to_ask : (j x low : ℕ) (kind : Kind) (part : Part) (high : Option ℕ) → k ≤ j
      → slice_get order j ≡ Some x
      → shape_of p x ≡ Coll kind part low high
      → HasAsked p n_max tables x low kind part high n

-- each collection of the nodes below y has a table that has not been asked
abbrev pub AreUnasked : Program → ℕ → List (Option Asked) → ℕ → Type 0
AreUnasked p n_max tables y =
    (x low : ℕ) (kind : Kind) (part : Part) (high : Option ℕ) → x < y
    → shape_of p x ≡ Coll kind part low high
    → slice_get tables x ≡ Some (Some (unasked p.universe kind low high n_max))

-- the construct is a collection
abbrev pub IsCollection : Shape → Type 0
IsCollection (Coll kind part low high) = Unit {0}
IsCollection _ = ⊥

-- what is made for node x
abbrev pub IsUnasked : Program → ℕ → ℕ → Option Asked → Type 0
IsUnasked p n_max x table =
    (low : ℕ) (kind : Kind) (part : Part) (high : Option ℕ) → shape_of p x ≡ Coll kind part low high
    → table ≡ Some (unasked p.universe kind low high n_max)
