-- Structures of a size, and their counts, totals and rows.
use Rattle.std.specs.Prelude.{◌≡◌, ℕ, ◌+◌, List, [], ◌∷◌, length}
use Rattle.luo_finite.specs.Listing.{Counts, Totals}
use Rattle.luo_model.specs.declared.table.Row.{Row}
use Rattle.luo_model.specs.Tree.{Tree, size_of}
use Rattle.luo_model.specs.Structures.{Carries, labels_from}
use Rattle.luo_source.specs.declared.names.Name.{Name}
use Rattle.luo_source.specs.Plain.Types.{TypeExpr, Named}
use Rattle.luo_source.specs.Plain.Source.{ProcDef, Source}
use Rattle.luo_meaning.specs.Defined.{DefinesProcedure}
use Rattle.luo_meaning.specs.Structures.{IsOf}
use Rattle.luo_meaning.specs.Charges.{ProcCharges}

-- t is a structure of e of size n; where the universe is labelled its labels are 1 to n, each once
abbrev pub IsStructureOf : Source → TypeExpr → ℕ → Tree → Type 0
IsStructureOf source e n t =
    IsOf source e t × (size_of t ≡ n) × Carries source.universe (labels_from 1 n) t

-- e has c structures of size n
abbrev pub IsCountOf : Source → TypeExpr → ℕ → ℕ → Type 0
IsCountOf source e n c = Counts (IsStructureOf source e n) c

-- what is charged on the structures of e of size n sums to t
abbrev pub IsTotalOf : Source → TypeExpr → (Tree → ℕ → Type 0) → ℕ → ℕ → Type 0
IsTotalOf source e charges n t = Totals (IsStructureOf source e n) charges t

-- a row of a procedure: a size, the number of structures of its parameter's type, and what it
-- charges on all of them
abbrev pub IsRowOf : Source → ProcDef → Row → Type 0
IsRowOf source p row =
    IsCountOf source (Named p.on) row.n row.count
    × IsTotalOf source (Named p.on) (ProcCharges source p.name.text) row.n row.total

-- rows of a procedure for the sizes n, n + 1, ..
abbrev pub AreRowsOf : Source → ProcDef → ℕ → List Row → Type 0
AreRowsOf source p n [] = Unit {0}
AreRowsOf source p n (row ∷ rows) =
    (row.n ≡ n) × IsRowOf source p row × AreRowsOf source p (n + 1) rows

-- for each name of a procedure a table: its rows for the sizes 0 to `last`
abbrev pub AreTablesOf : Source → ℕ → List Name → List (List Row) → Type 0
AreTablesOf source last [] [] = Unit {0}
AreTablesOf source last (name ∷ names) (rows ∷ tables) =
    ((p : ProcDef) × DefinesProcedure source name.text p × (length rows ≡ last + 1)
    × AreRowsOf source p 0 rows) × AreTablesOf source last names tables
AreTablesOf source last _ _ = ⊥
