-- The report of a source as it is written.
use Rattle.std.specs.Prelude.{◌≡◌, ℕ, ◌+◌, List, [], ◌∷◌, ◌++◌, length, codes, flat_map, slice_get, Some, pos}
use Rattle.luo_model.specs.declared.table.Row.{Row}
use Rattle.luo_report.specs.Report.{line, row_text, universe_text, equation_line}
use Rattle.luo_source.specs.declared.names.Name.{Name}
use Rattle.luo_equation.specs.Expr as series
use Rattle.luo_source.specs.Plain.Source.{ProcDef, Source}
use Rattle.luo_source.specs.Plain.Types.{Named}
use Rattle.luo_rules.specs.Definitions.{Definition, definitions}
use Rattle.luo_rules.specs.Whole.{core}
use Rattle.luo_system.specs.Holding.{IsTableOf}
use Rattle.luo_system.specs.System.{system}
use Rattle.luo_meaning.specs.Charges.{ProcCharges}
use Rattle.luo_meaning.specs.Defined.{DefinesProcedure}
use Rattle.luo_meaning.specs.Rows.{IsCountOf, IsTotalOf, AreRowsOf}

-- the lines of the equations, which are those of the core form
abbrev pub equation_lines : Source → List ℕ
equation_lines source = flat_map (equation_line (core source)) (system (core source))

-- the numbers of a table are those of the source at every size: for each name that it defines, by
-- its place, the number of its structures, and for each procedure, by its place, what it charges on
-- all structures of its parameter's type
pub record AreNumbersOf (source : Source) (t : series.Table) : Type 0 where
  pub counts : (i : ℕ) (d : Definition) → slice_get (definitions source) i ≡ Some d → (n : ℕ)
      → (c : ℕ) × IsCountOf source (Named d.name) n c × (t.x i n ≡ pos c)
  pub totals : (f : ℕ) (p : ProcDef) → slice_get source.procs f ≡ Some p → (n : ℕ)
      → (c : ℕ) × IsTotalOf source (Named p.on) (ProcCharges source p.name.text) n c
      × (t.y f n ≡ pos c)

-- the equations are true: they hold, at every size, of the numbers of the source, and of no other
-- table of integers that starts with zeros
abbrev pub EquationsAreTrueOf : Source → Type 0
EquationsAreTrueOf source =
    (numbers : series.Table) × AreNumbersOf source numbers
    × IsTableOf (core source) (system (core source)) numbers

-- `analyze P on T`
abbrev pub heading_of : ProcDef → List ℕ
heading_of p = line (codes "analyze " ++ p.name.text ++ codes " on " ++ p.on.text)

-- for each of these names the heading of its procedure, and a row for each size from 0 to `last`:
-- size, count, total and average
abbrev pub AreSections : Source → ℕ → List Name → List ℕ → Type 0
AreSections source last [] bytes = bytes ≡ []
AreSections source last (name ∷ names) bytes =
    (p : ProcDef) × (rows : List Row) × (rest : List ℕ) × DefinesProcedure source name.text p
    × (length rows ≡ last + 1) × AreRowsOf source p 0 rows
    × AreSections source last names rest × (bytes ≡ heading_of p ++ flat_map row_text rows ++ rest)

-- these bytes are the report of the source for the sizes up to `last`: the universe, the equations,
-- which are true, and the sections of the analyze lines
abbrev pub IsReportOf : Source → ℕ → List ℕ → Type 0
IsReportOf source last bytes =
    EquationsAreTrueOf source
    × ((sections : List ℕ) × AreSections source last source.analyses sections
    × (bytes ≡ universe_text source.universe ++ equation_lines source ++ sections))
