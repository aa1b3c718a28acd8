-- The canonical text of a source.
use Rattle.std.specs.Prelude.{ℕ, List, ◌++◌, codes, flat_map}
use Rattle.luo_model.specs.declared.program.Universe.{Universe}
use Rattle.luo_model.specs.declared.program.Universe.TheVariants.{Unlabelled, Labelled}
use Rattle.luo_source.specs.declared.names.Name.{Name}
use Rattle.luo_source.specs.Plain.Source.{ProcBody, Statements, Value, ProcDef, Source}
use Rattle.luo_print.specs.CanonicalTypes.{type_def_line, measure_line}
use Rattle.luo_print.specs.CanonicalStatements.{block_of, stmt_texts}
use Rattle.luo_print.specs.CanonicalValues.{value_text}

-- the first line
abbrev pub universe_line : Universe → List ℕ
universe_line Labelled = codes "labelled;\n"
universe_line Unlabelled = codes "unlabelled;\n"

-- what comes after the `)` of a procedure: the rest of that line, and its block or value
abbrev pub body_text : ProcBody → List ℕ
body_text (Statements stmts) = codes ";\n" ++ block_of 0 (stmt_texts 2 stmts)
body_text (Value colon result value) =
    codes " : " ++ result.text ++ codes ";\n" ++ value_text 0 value

abbrev pub proc_text : ProcDef → List ℕ
proc_text def =
    codes "procedure " ++ def.name.text ++ codes "(" ++ def.param.text ++ codes " : " ++ def.on.text
    ++ codes ")" ++ body_text def.body ++ codes ";\n"

abbrev pub analyze_line : Name → List ℕ
analyze_line name = codes "analyze " ++ name.text ++ codes ";\n"

-- the universe, then the definitions, the measures, the procedures and the analyze lines
abbrev pub canonical : Source → List ℕ
canonical source =
    universe_line source.universe ++ flat_map type_def_line source.types
    ++ flat_map measure_line source.measures ++ flat_map proc_text source.procs
    ++ flat_map analyze_line source.analyses
