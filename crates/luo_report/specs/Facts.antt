-- How rows, headings and reports are written.
use Rattle.std.specs.Prelude.{◌≡◌, ℕ, [], ◌∷◌, ◌++◌, codes}
use Rattle.luo_model.specs.declared.program.Universe.TheVariants.{Unlabelled, Labelled}
use Rattle.luo_model.specs.declared.table.Row.{Row}
use Rattle.luo_model.specs.Program.{Program, Does, no_items}
use Rattle.luo_model.specs.Programs.{alone, definition, named, procedure}
use Rattle.luo_equation.specs.declared.equation.Left.TheVariants as left
use Rattle.luo_equation.specs.Expr.{Power, Series}
use Rattle.luo_report.specs.Report.{row_text, heading, universe_text, report_text}

abbrev pub row : ℕ → ℕ → ℕ → Row
row n count total = record { n = n; count = count; total = total }

-- size, count, total and average: a fraction, a whole number, 0, and none where nothing is counted
abbrev pub RowsAreWritten : Type 0
RowsAreWritten =
    (row_text (row 3 6 11) ≡ codes "3 6 11 11/6\n") × (row_text (row 4 10 4) ≡ codes "4 10 4 2/5\n")
    × (row_text (row 12 2 10) ≡ codes "12 2 10 5\n") × (row_text (row 1 7 0) ≡ codes "1 7 0 0\n")
    × (row_text (row 0 0 0) ≡ codes "0 0 0 -\n")

-- types a and b, procedures p on a and q on b, and two analyze lines
abbrev pub lettered : Program
lettered = record {
  universe = Labelled;
  defs = definition (codes "a") (alone 0) ∷ definition (codes "b") (alone 0) ∷ [];
  nodes = [];
  procs =
      procedure (codes "p") (named 0 0) (Does 0 no_items) 0
      ∷ procedure (codes "q") (named 0 1) (Does 0 no_items) 0 ∷ [];
  sites = [];
  analyses = 1 ∷ 0 ∷ [];
}

-- `analyze P on T`, and the universe
abbrev pub HeadingsAreWritten : Type 0
HeadingsAreWritten =
    (heading lettered 0 ≡ codes "analyze p on a\n") × (heading lettered 1 ≡ codes "analyze q on b\n")
    × (universe_text Unlabelled ≡ codes "universe unlabelled\n")
    × (universe_text Labelled ≡ codes "universe labelled\n")

-- the universe, the equations, and the tables in the order of the analyze lines
abbrev pub ReportsAreWritten : Type 0
ReportsAreWritten =
    report_text lettered
    (record { left = left.Series 0; right = Power 1 }
    ∷ record { left = left.Tau 1; right = Series 0 } ∷ [])
    (record { callee = 1; rows = row 0 0 0 ∷ row 1 2 3 ∷ [] }
    ∷ record { callee = 0; rows = row 0 1 4 ∷ [] } ∷ [])
    ≡ codes "universe labelled\na(z) = z\ntau[q](z) = a(z)\n"
    ++ codes "analyze q on b\n0 0 0 -\n1 2 3 3/2\nanalyze p on a\n0 1 4 4\n"
