-- The report of a program.
use Rattle.std.specs.Prelude.{ℕ, List, [], ◌++◌, codes, decimal, flat_map, Option, Some, None, slice_index_or}
use Rattle.luo_model.specs.declared.program.Universe.{Universe}
use Rattle.luo_model.specs.declared.program.Universe.TheVariants.{Unlabelled, Labelled}
use Rattle.luo_model.specs.declared.table.Row.{Row}
use Rattle.luo_model.specs.Program.{Program}
use Rattle.luo_equation.specs.Equation.{Equation}
use Rattle.luo_equation.specs.Text.{definition_name, no_procedure, equation_text}
use Rattle.luo_report.specs.declared.table.Table.{Table}
use Rattle.luo_report.specs.Average.{average_text}

-- a text with its line end
abbrev pub line : List ℕ → List ℕ
line text = text ++ codes "\n"

-- `n count total average`
abbrev pub row_text : Row → List ℕ
row_text row =
    line (decimal row.n ++ codes " " ++ decimal row.count ++ codes " " ++ decimal row.total
    ++ codes " " ++ average_text row.total row.count)

-- the name of a type
abbrev pub name_of : Program → Option ℕ → List ℕ
name_of p None = []
name_of p (Some d) = definition_name p d

-- `analyze P on T`
abbrev pub heading : Program → ℕ → List ℕ
heading p f =
    let P = slice_index_or p.procs f no_procedure in
    line (codes "analyze " ++ P.name ++ codes " on " ++ name_of p P.on.name)

-- the heading of a table and its rows
abbrev pub section : Program → Table → List ℕ
section p table = heading p table.callee ++ flat_map row_text table.rows

abbrev pub universe_text : Universe → List ℕ
universe_text Unlabelled = line (codes "universe unlabelled")
universe_text Labelled = line (codes "universe labelled")

abbrev pub equation_line : Program → Equation → List ℕ
equation_line p e = line (equation_text p e)

-- the universe, the equations, and the sections of the tables
abbrev pub report_text : Program → List Equation → List Table → List ℕ
report_text p equations tables =
    universe_text p.universe ++ flat_map (equation_line p) equations ++ flat_map (section p) tables
