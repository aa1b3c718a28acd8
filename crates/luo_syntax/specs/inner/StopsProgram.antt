-- Where reading procedures and whole programs stops.
use Rattle.std.specs.Prelude.{◌≡◌, ℕ, List, []}
use Rattle.luo_scan.specs.declared.token.Word.TheVariants.{KwLabelled, KwUnlabelled, KwType, KwMeasure, KwProcedure, KwAnalyze}
use Rattle.luo_scan.specs.declared.token.Mark.TheVariants.{Semicolon, Colon, LeftRound, RightRound}
use Rattle.luo_scan.specs.declared.token.TokenKind.TheVariants as kind
use Rattle.luo_scan.specs.Lexemes.{Lexeme}
use Rattle.luo_model.specs.declared.program.Universe.{Universe}
use Rattle.luo_model.specs.declared.program.Universe.TheVariants.{Unlabelled, Labelled}
use Rattle.luo_source.specs.declared.names.Name.{Name}
use Rattle.luo_source.specs.declared.types.TypeDef.{TypeDef}
use Rattle.luo_source.specs.declared.types.MeasureDef.{MeasureDef}
use Rattle.luo_source.specs.declared.statements.Stmt.{Stmt}
use Rattle.luo_source.specs.declared.values.SourceValue.{SourceValue}
use Rattle.luo_source.specs.declared.source.ProcBody.{ProcBody}
use Rattle.luo_source.specs.declared.source.ProcBody.TheVariants.{Statements, Value}
use Rattle.luo_source.specs.declared.source.ProcDef.{ProcDef}
use Rattle.luo_source.specs.Ends.{No}
use Rattle.luo_syntax.specs.inner.Next.{IsNext, IsNextAt, IsName, Misses, MissesName}
use Rattle.luo_source.specs.GrammarTypes.{IsTypeDef, IsMeasure}
use Rattle.luo_source.specs.GrammarStatements.{IsBlock}
use Rattle.luo_source.specs.GrammarValues.{IsValue}
use Rattle.luo_source.specs.Grammar.{IsProc, IsAnalyze, FromProcs, FromMeasures, FromTypes, AreAnalyses}
use Rattle.luo_syntax.specs.inner.StopsTypes.{TypeDefStops, MeasureStops}
use Rattle.luo_syntax.specs.inner.StopsStatements.{BlockStops}
use Rattle.luo_syntax.specs.inner.StopsValues.{ValueStops, WholeValue}

-- "(" name ":" name ")"
pub data IsParam : List Lexeme → List Lexeme → Name × Name → Type 0 where
  one_param : {from a b c d to : List Lexeme} {param on : Name}
      → IsNext (kind.Mark LeftRound) from a → IsName a b param → IsNext (kind.Mark Colon) b c
      → IsName c d on → IsNext (kind.Mark RightRound) d to → IsParam from to (param, on)

-- "(" name ":" name ")" is being read from these lexemes, and can't go on at those
pub data ParamStops : List Lexeme → List Lexeme → Type 0 where
  no_left : {from at : List Lexeme} → Misses (kind.Mark LeftRound) from at → ParamStops from at
  no_param : {from a at : List Lexeme} → IsNext (kind.Mark LeftRound) from a → MissesName a at
      → ParamStops from at
  no_colon : {from a b at : List Lexeme} {param : Name} → IsNext (kind.Mark LeftRound) from a
      → IsName a b param → Misses (kind.Mark Colon) b at → ParamStops from at
  no_on : {from a b c at : List Lexeme} {param : Name} → IsNext (kind.Mark LeftRound) from a
      → IsName a b param → IsNext (kind.Mark Colon) b c → MissesName c at → ParamStops from at
  no_right : {from a b c d at : List Lexeme} {param on : Name} → IsNext (kind.Mark LeftRound) from a
      → IsName a b param → IsNext (kind.Mark Colon) b c → IsName c d on
      → Misses (kind.Mark RightRound) d at → ParamStops from at

-- name ";" value ";"
pub data IsResult : List Lexeme → List Lexeme → Name × SourceValue → Type 0 where
  one_result : {from a b c to : List Lexeme} {name : Name} {v : SourceValue} → IsName from a name
      → IsNext (kind.Mark Semicolon) a b → IsValue b c v → IsNext (kind.Mark Semicolon) c to
      → IsResult from to (name, v)

-- name ";" value ";" is being read from these lexemes, and can't go on at those
pub data ResultStops : List Lexeme → List Lexeme → Type 0 where
  no_result : {from at : List Lexeme} → MissesName from at → ResultStops from at
  past_result : {from a at : List Lexeme} {name : Name} → IsName from a name
      → Misses (kind.Mark Semicolon) a at → ResultStops from at
  in_value : {from a b at : List Lexeme} {name : Name} → IsName from a name
      → IsNext (kind.Mark Semicolon) a b → ValueStops b at → ResultStops from at
  past_value : {from a b c at : List Lexeme} {name : Name} {v : SourceValue} → IsName from a name
      → IsNext (kind.Mark Semicolon) a b → WholeValue b c v → Misses (kind.Mark Semicolon) c at
      → ResultStops from at

-- (";" block | ":" name ";" value) ";"
pub data IsWholeBody : List Lexeme → List Lexeme → ProcBody → Type 0 where
  whole_statements : {from a b to : List Lexeme} {stmts : List Stmt}
      → IsNext (kind.Mark Semicolon) from a → IsBlock a b stmts → IsNext (kind.Mark Semicolon) b to
      → IsWholeBody from to (Statements stmts)
  whole_value : {from a to : List Lexeme} {colon : ℕ} {name : Name} {v : SourceValue}
      → IsNextAt (kind.Mark Colon) colon from a → IsResult a to (name, v)
      → IsWholeBody from to (Value colon name v)

-- (";" block | ":" name ";" value) ";" is being read from these lexemes, and can't go on at those
pub data BodyStops : List Lexeme → List Lexeme → Type 0 where
  no_body : {from at : List Lexeme} → Misses (kind.Mark Semicolon) from at
      → No (kind.Mark Colon) from → BodyStops from at
  in_block : {from a at : List Lexeme} → IsNext (kind.Mark Semicolon) from a → BlockStops a at
      → BodyStops from at
  past_block : {from a b at : List Lexeme} {stmts : List Stmt} → IsNext (kind.Mark Semicolon) from a
      → IsBlock a b stmts → Misses (kind.Mark Semicolon) b at → BodyStops from at
  in_result : {from a at : List Lexeme} → IsNext (kind.Mark Colon) from a → ResultStops a at
      → BodyStops from at

-- a procedure is being read from these lexemes, and can't go on at those
pub data ProcStops : List Lexeme → List Lexeme → Type 0 where
  no_procedure : {from at : List Lexeme} → Misses (kind.Word KwProcedure) from at
      → ProcStops from at
  no_proc_name : {from a at : List Lexeme} → IsNext (kind.Word KwProcedure) from a → MissesName a at
      → ProcStops from at
  in_param : {from a b at : List Lexeme} {name : Name} → IsNext (kind.Word KwProcedure) from a
      → IsName a b name → ParamStops b at → ProcStops from at
  in_body : {from a b c at : List Lexeme} {name : Name} {param : Name × Name}
      → IsNext (kind.Word KwProcedure) from a → IsName a b name → IsParam b c param → BodyStops c at
      → ProcStops from at

-- an analysis is being read from these lexemes, and can't go on at those
pub data AnalyzeStops : List Lexeme → List Lexeme → Type 0 where
  no_analyze : {from at : List Lexeme} → Misses (kind.Word KwAnalyze) from at → AnalyzeStops from at
  no_analyze_name : {from a at : List Lexeme} → IsNext (kind.Word KwAnalyze) from a
      → MissesName a at → AnalyzeStops from at
  no_analyze_end : {from a b at : List Lexeme} {name : Name} → IsNext (kind.Word KwAnalyze) from a
      → IsName a b name → Misses (kind.Mark Semicolon) b at → AnalyzeStops from at

-- analyze {analyze} up to the end are being read from these lexemes, and can't go on at those
pub data AnalysesStop : List Lexeme → List Lexeme → Type 0 where
  in_analysis : {from at : List Lexeme} → AnalyzeStops from at → AnalysesStop from at
  past_analysis : {from mid at : List Lexeme} {name : Name} → IsAnalyze from mid name
      → (mid ≡ [] → ⊥) → AnalysesStop mid at → AnalysesStop from at

-- {proc} and all after it are being read from these lexemes, and can't go on at those
pub data FromProcsStop : List Lexeme → List Lexeme → Type 0 where
  in_proc : {from mid at : List Lexeme} → IsNext (kind.Word KwProcedure) from mid
      → ProcStops from at → FromProcsStop from at
  past_proc : {from mid at : List Lexeme} {p : ProcDef} → IsProc from mid p → FromProcsStop mid at
      → FromProcsStop from at
  past_procs : {from at : List Lexeme} → No (kind.Word KwProcedure) from → AnalysesStop from at
      → FromProcsStop from at

-- {measure} and all after it are being read from these lexemes, and can't go on at those
pub data FromMeasuresStop : List Lexeme → List Lexeme → Type 0 where
  in_measure : {from mid at : List Lexeme} → IsNext (kind.Word KwMeasure) from mid
      → MeasureStops from at → FromMeasuresStop from at
  past_measure : {from mid at : List Lexeme} {m : MeasureDef} → IsMeasure from mid m
      → FromMeasuresStop mid at → FromMeasuresStop from at
  past_measures : {from at : List Lexeme} → No (kind.Word KwMeasure) from → FromProcsStop from at
      → FromMeasuresStop from at

-- {typedef} and all after it are being read from these lexemes, and can't go on at those
pub data FromTypesStop : List Lexeme → List Lexeme → Type 0 where
  in_type : {from mid at : List Lexeme} → IsNext (kind.Word KwType) from mid → TypeDefStops from at
      → FromTypesStop from at
  past_type : {from mid at : List Lexeme} {t : TypeDef} → IsTypeDef from mid t
      → FromTypesStop mid at → FromTypesStop from at
  past_types : {from at : List Lexeme} → No (kind.Word KwType) from → FromMeasuresStop from at
      → FromTypesStop from at

-- ["labelled" ";" | "unlabelled" ";"], where all that begins so is taken
pub data IsHead : List Lexeme → List Lexeme → Universe → Type 0 where
  labelled_said : {from mid to : List Lexeme} → IsNext (kind.Word KwLabelled) from mid
      → IsNext (kind.Mark Semicolon) mid to → IsHead from to Labelled
  unlabelled_said : {from mid to : List Lexeme} → IsNext (kind.Word KwUnlabelled) from mid
      → IsNext (kind.Mark Semicolon) mid to → IsHead from to Unlabelled
  nothing_said : {from to : List Lexeme} → Misses (kind.Word KwLabelled) from to
      → No (kind.Word KwUnlabelled) from → IsHead from to Unlabelled

-- ["labelled" ";" | "unlabelled" ";"] is being read from these lexemes, and can't go on at those
pub data HeadStops : List Lexeme → List Lexeme → Type 0 where
  past_labelled : {from mid at : List Lexeme} → IsNext (kind.Word KwLabelled) from mid
      → Misses (kind.Mark Semicolon) mid at → HeadStops from at
  past_unlabelled : {from mid at : List Lexeme} → IsNext (kind.Word KwUnlabelled) from mid
      → Misses (kind.Mark Semicolon) mid at → HeadStops from at

-- a program up to the end is being read from these lexemes, and can't go on at those
pub data ProgramStops : List Lexeme → List Lexeme → Type 0 where
  in_head : {from at : List Lexeme} → HeadStops from at → ProgramStops from at
  past_head : {from mid at : List Lexeme} {u : Universe} → IsHead from mid u → FromTypesStop mid at
      → ProgramStops from at

-- these procedures come first, and analyses are next
pub record PassesProcs (from at : List Lexeme) (procs : List ProcDef) : Type 0 where
  pub reads : (to : List Lexeme) (names : List Name) → AreAnalyses at to names
      → FromProcs from to procs names
  pub stops : (to : List Lexeme) → AnalysesStop at to → FromProcsStop from to

-- these measures come first, and none is next
pub record PassesMeasures (from at : List Lexeme) (measures : List MeasureDef) : Type 0 where
  pub reads : (to : List Lexeme) (procs : List ProcDef) (names : List Name)
      → FromProcs at to procs names → FromMeasures from to measures procs names
  pub stops : (to : List Lexeme) → FromProcsStop at to → FromMeasuresStop from to

-- these types come first, and none is next
pub record PassesTypes (from at : List Lexeme) (types : List TypeDef) : Type 0 where
  pub reads : (to : List Lexeme) (measures : List MeasureDef) (procs : List ProcDef)
      (names : List Name) → FromMeasures at to measures procs names
      → FromTypes from to types measures procs names
  pub stops : (to : List Lexeme) → FromMeasuresStop at to → FromTypesStop from to
