-- How procedures and whole programs are read: from lexemes at hand to lexemes left.
use Rattle.std.specs.Prelude.{ℕ, List, [], ◌∷◌}
use Rattle.luo_scan.specs.declared.token.Word.TheVariants.{KwLabelled, KwUnlabelled, KwProcedure, KwAnalyze}
use Rattle.luo_scan.specs.declared.token.Mark.TheVariants.{Semicolon, LeftRound, RightRound, Colon}
use Rattle.luo_scan.specs.declared.token.TokenKind.TheVariants as kind
use Rattle.luo_scan.specs.declared.token.Token.{Token}
use Rattle.luo_scan.specs.Lexemes.{Lexeme, lexeme, lexemes}
use Rattle.luo_model.specs.declared.program.Universe.TheVariants.{Unlabelled, Labelled}
use Rattle.luo_source.specs.declared.names.Name.{Name}
use Rattle.luo_source.specs.declared.types.TypeDef.{TypeDef}
use Rattle.luo_source.specs.declared.types.MeasureDef.{MeasureDef}
use Rattle.luo_source.specs.declared.statements.Stmt.{Stmt}
use Rattle.luo_source.specs.declared.values.SourceValue.{SourceValue}
use Rattle.luo_source.specs.declared.source.ProcBody.{ProcBody}
use Rattle.luo_source.specs.declared.source.ProcBody.TheVariants.{Statements, Value}
use Rattle.luo_source.specs.declared.source.ProcDef.{ProcDef}
use Rattle.luo_source.specs.declared.source.Source.{Source}
use Rattle.luo_source.specs.GrammarTypes.{IsTypeDef, IsMeasure}
use Rattle.luo_source.specs.GrammarStatements.{IsBlock}
use Rattle.luo_source.specs.GrammarValues.{IsValue}

-- ";" block | ":" name ";" value
pub data IsProcBody : List Lexeme → List Lexeme → ProcBody → Type 0 where
  statements_body : {from to : List Lexeme} {b : List ℕ} {k : ℕ} {stmts : List Stmt}
      → IsBlock from to stmts
      → IsProcBody (lexeme (kind.Mark Semicolon) b k ∷ from) to (Statements stmts)
  value_body : {from to : List Lexeme} {b text c : List ℕ} {colon at k : ℕ} {v : SourceValue}
      → IsValue from to v
      → IsProcBody
      (lexeme (kind.Mark Colon) b colon ∷ lexeme kind.Name text at
      ∷ lexeme (kind.Mark Semicolon) c k ∷ from) to
      (Value colon (record { text = text; at = at }) v)

-- proc = "procedure" name "(" name ":" name ")" (";" block | ":" name ";" value) ";"
pub data IsProc : List Lexeme → List Lexeme → ProcDef → Type 0 where
  proc : {from to : List Lexeme} {b text c param d type e f : List ℕ}
      {k at l param_at m type_at n o : ℕ} {body : ProcBody}
      → IsProcBody from (lexeme (kind.Mark Semicolon) f o ∷ to) body
      → IsProc (lexeme (kind.Word KwProcedure) b k ∷ lexeme kind.Name text at ∷ lexeme
      (kind.Mark LeftRound) c l ∷ lexeme kind.Name param param_at ∷ lexeme (kind.Mark Colon) d m
      ∷ lexeme kind.Name type type_at ∷ lexeme (kind.Mark RightRound) e n ∷ from) to
      (record {
        name = record { text = text; at = at };
        param = record { text = param; at = param_at };
        on =
            record { text = type; at = type_at };
        body = body;
      })

-- analyze = "analyze" name ";"
pub data IsAnalyze : List Lexeme → List Lexeme → Name → Type 0 where
  analyze : {to : List Lexeme} {b text c : List ℕ} {k at l : ℕ}
      → IsAnalyze (lexeme (kind.Word KwAnalyze) b k ∷ lexeme kind.Name text at ∷ lexeme
      (kind.Mark Semicolon) c l ∷ to) to (record { text = text; at = at })

-- analyze {analyze}
pub data AreAnalyses : List Lexeme → List Lexeme → List Name → Type 0 where
  last_analysis : {from to : List Lexeme} {name : Name} → IsAnalyze from to name
      → AreAnalyses from to (name ∷ [])
  more_analyses : {from mid to : List Lexeme} {name : Name} {names : List Name}
      → IsAnalyze from mid name → AreAnalyses mid to names → AreAnalyses from to (name ∷ names)

-- {proc} analyze {analyze}
pub data FromProcs : List Lexeme → List Lexeme → List ProcDef → List Name → Type 0 where
  no_procs : {from to : List Lexeme} {names : List Name} → AreAnalyses from to names
      → FromProcs from to [] names
  more_procs : {from mid to : List Lexeme} {p : ProcDef} {procs : List ProcDef} {names : List Name}
      → IsProc from mid p → FromProcs mid to procs names → FromProcs from to (p ∷ procs) names

-- {measure} {proc} analyze {analyze}
pub data FromMeasures : List Lexeme → List Lexeme → List MeasureDef → List ProcDef → List Name
    → Type 0 where
  no_measures : {from to : List Lexeme} {procs : List ProcDef} {names : List Name}
      → FromProcs from to procs names → FromMeasures from to [] procs names
  more_measures : {from mid to : List Lexeme} {m : MeasureDef} {measures : List MeasureDef}
      {procs : List ProcDef} {names : List Name} → IsMeasure from mid m
      → FromMeasures mid to measures procs names → FromMeasures from to (m ∷ measures) procs names

-- {typedef} {measure} {proc} analyze {analyze}
pub data FromTypes : List Lexeme → List Lexeme → List TypeDef → List MeasureDef → List ProcDef
    → List Name → Type 0 where
  no_types : {from to : List Lexeme} {measures : List MeasureDef} {procs : List ProcDef}
      {names : List Name} → FromMeasures from to measures procs names
      → FromTypes from to [] measures procs names
  more_types : {from mid to : List Lexeme} {t : TypeDef} {types : List TypeDef}
      {measures : List MeasureDef} {procs : List ProcDef} {names : List Name} → IsTypeDef from mid t
      → FromTypes mid to types measures procs names
      → FromTypes from to (t ∷ types) measures procs names

-- program = ["labelled" ";" | "unlabelled" ";"] {typedef} {measure} {proc} analyze {analyze}
pub data IsProgram : List Lexeme → List Lexeme → Source → Type 0 where
  labelled : {from to : List Lexeme} {b c : List ℕ} {k l : ℕ} {types : List TypeDef}
      {measures : List MeasureDef} {procs : List ProcDef} {names : List Name}
      → FromTypes from to types measures procs names
      → IsProgram (lexeme (kind.Word KwLabelled) b k ∷ lexeme (kind.Mark Semicolon) c l ∷ from) to
      (record {
        universe = Labelled;
        types = types;
        measures = measures;
        procs = procs;
        analyses = names;
      })
  unlabelled : {from to : List Lexeme} {b c : List ℕ} {k l : ℕ} {types : List TypeDef}
      {measures : List MeasureDef} {procs : List ProcDef} {names : List Name}
      → FromTypes from to types measures procs names
      → IsProgram (lexeme (kind.Word KwUnlabelled) b k ∷ lexeme (kind.Mark Semicolon) c l ∷ from) to
      (record {
        universe = Unlabelled;
        types = types;
        measures = measures;
        procs = procs;
        analyses = names;
      })
  unlabelled_unsaid : {from to : List Lexeme} {types : List TypeDef} {measures : List MeasureDef}
      {procs : List ProcDef} {names : List Name} → FromTypes from to types measures procs names
      → IsProgram from to
      (record {
        universe = Unlabelled;
        types = types;
        measures = measures;
        procs = procs;
        analyses = names;
      })

-- the tokens of a text are a program, and this is its source
abbrev pub Derives : List ℕ → List Token → Source → Type 0
Derives text tokens source = IsProgram (lexemes text tokens) [] source
