-- Procedures and whole programs are read in one way.
use Rattle.std.proofs.Common.{◌≡◌, List, [], refl, sym, subst}
use Rattle.luo_scan.specs.declared.token.Word.TheVariants.{KwAnalyze, KwProcedure, KwMeasure, KwType}
use Rattle.luo_scan.specs.declared.token.TokenKind.{TokenKind}
use Rattle.luo_scan.specs.declared.token.TokenKind.TheVariants as kind
use Rattle.luo_scan.specs.Lexemes.{Lexeme}
use Rattle.luo_source.specs.declared.names.Name.{Name}
use Rattle.luo_source.specs.declared.types.TypeDef.{TypeDef}
use Rattle.luo_source.specs.declared.types.MeasureDef.{MeasureDef}
use Rattle.luo_source.specs.declared.source.ProcBody.{ProcBody}
use Rattle.luo_source.specs.declared.source.ProcDef.{ProcDef}
use Rattle.luo_source.specs.declared.source.Source.{Source}
use Rattle.luo_source.specs.Ends.{No, EndsValue}
use Rattle.luo_source.specs.GrammarTypes.{type_def, measure_def}
use Rattle.luo_source.specs.Grammar.{IsProcBody, statements_body, value_body, IsProc, proc, IsAnalyze, analyze, AreAnalyses, last_analysis, more_analyses, FromProcs, no_procs, more_procs, FromMeasures, no_measures, more_measures, FromTypes, no_types, more_types, IsProgram, labelled, unlabelled, unlabelled_unsaid}
use Rattle.luo_source.proofs.OneTypes.{type_def_one, measure_one}
use Rattle.luo_source.proofs.OneStatements.{block_one}
use Rattle.luo_source.proofs.OneValues.{value_one}

pub proc_body_one : {from from' to to' : List Lexeme} {b c : ProcBody} → IsProcBody from to b → IsProcBody from' to' c → from ≡ from' → EndsValue to → EndsValue to' → (to ≡ to') × (b ≡ c)
proc_body_one (statements_body p) (statements_body q) e m n = let rest = block_one p q (cc) in (rest.0, cc)
proc_body_one (value_body p) (value_body q) e m n = let rest = value_one p q (cc) m n in (rest.0, cc)
proc_body_one p q e m n = cc

pub proc_one : {from from' to to' : List Lexeme} {p q : ProcDef} → IsProc from to p → IsProc from' to' q → from ≡ from' → (to ≡ to') × (p ≡ q)
proc_one (proc p) (proc q) e =
    let body = proc_body_one p q (cc) (λ bytes at rest f. cc, λ bytes at rest f. cc) (λ bytes at rest f. cc, λ bytes at rest f. cc) in (cc, cc)

pub analyze_one : {from from' to to' : List Lexeme} {a b : Name} → IsAnalyze from to a → IsAnalyze from' to' b → from ≡ from' → (to ≡ to') × (a ≡ b)
analyze_one analyze analyze e = (cc, cc)

-- the first word of what is read is one of these

pub analyses_begin : {what : TokenKind} {from to : List Lexeme} {names : List Name} → (kind.Word KwAnalyze ≡ what → ⊥) → AreAnalyses from to names → No what from
analyses_begin n (last_analysis analyze) b k r e = n (cc)
analyses_begin n (more_analyses analyze q) b k r e = n (cc)

pub procs_begin : {what : TokenKind} {from to : List Lexeme} {procs : List ProcDef} {names : List Name} → (kind.Word KwAnalyze ≡ what → ⊥) → (kind.Word KwProcedure ≡ what → ⊥) → FromProcs from to procs names → No what from
procs_begin l m (no_procs p) b k r e = analyses_begin l p b k r e
procs_begin l m (more_procs (proc p) q) b k r e = m (cc)

pub measures_begin : {what : TokenKind} {from to : List Lexeme} {measures : List MeasureDef} {procs : List ProcDef} {names : List Name} → (kind.Word KwAnalyze ≡ what → ⊥) → (kind.Word KwProcedure ≡ what → ⊥) → (kind.Word KwMeasure ≡ what → ⊥) → FromMeasures from to measures procs names → No what from
measures_begin l m n (no_measures p) b k r e = procs_begin l m p b k r e
measures_begin l m n (more_measures (measure_def p) q) b k r e = n (cc)

pub types_begin : {what : TokenKind} {from to : List Lexeme} {types : List TypeDef} {measures : List MeasureDef} {procs : List ProcDef} {names : List Name} → (kind.Word KwAnalyze ≡ what → ⊥) → (kind.Word KwProcedure ≡ what → ⊥) → (kind.Word KwMeasure ≡ what → ⊥) → (kind.Word KwType ≡ what → ⊥) → FromTypes from to types measures procs names → No what from
types_begin l m n o (no_types p) b k r e = measures_begin l m n p b k r e
types_begin l m n o (more_types (type_def p q) r) b k s e = o (cc)

some_analysis : {from to : List Lexeme} {names : List Name} → AreAnalyses from to names → No (kind.Word KwAnalyze) from → ⊥
some_analysis (last_analysis analyze) n = n _ _ _ refl
some_analysis (more_analyses analyze q) n = n _ _ _ refl

pub analyses_one : {from from' to to' : List Lexeme} {a b : List Name} → AreAnalyses from to a → AreAnalyses from' to' b → from ≡ from' → No (kind.Word KwAnalyze) to → No (kind.Word KwAnalyze) to' → (to ≡ to') × (a ≡ b)
analyses_one (last_analysis p) (last_analysis q) e m n = let first = analyze_one p q e in (first.0, cc)
analyses_one (last_analysis p) (more_analyses q qs) e m n = absurd (some_analysis qs (subst (No (kind.Word KwAnalyze)) (analyze_one p q e).0 m))
analyses_one (more_analyses p ps) (last_analysis q) e m n = absurd (some_analysis ps (subst (No (kind.Word KwAnalyze)) (sym (analyze_one p q e).0) n))
analyses_one (more_analyses p ps) (more_analyses q qs) e m n =
    let first = analyze_one p q e in
    let rest = analyses_one ps qs first.0 m n in
    (rest.0, cc)

pub procs_one : {from from' to to' : List Lexeme} {p q : List ProcDef} {a b : List Name} → FromProcs from to p a → FromProcs from' to' q b → from ≡ from' → No (kind.Word KwAnalyze) to → No (kind.Word KwAnalyze) to' → (to ≡ to') × (p ≡ q) × (a ≡ b)
procs_one (no_procs p) (no_procs q) e m n = let rest = analyses_one p q e m n in (rest.0, refl, rest.1)
procs_one (no_procs p) (more_procs (proc q) qs) e m n = absurd (analyses_begin (λ f. cc) p _ _ _ e)
procs_one (more_procs (proc p) ps) (no_procs q) e m n = absurd (analyses_begin (λ f. cc) q _ _ _ (sym e))
procs_one (more_procs p ps) (more_procs q qs) e m n =
    let first = proc_one p q e in
    let rest = procs_one ps qs first.0 m n in
    (rest.0, cc, rest.2)

pub measures_one : {from from' to to' : List Lexeme} {x y : List MeasureDef} {p q : List ProcDef} {a b : List Name} → FromMeasures from to x p a → FromMeasures from' to' y q b → from ≡ from' → No (kind.Word KwAnalyze) to → No (kind.Word KwAnalyze) to' → (to ≡ to') × (x ≡ y) × (p ≡ q) × (a ≡ b)
measures_one (no_measures p) (no_measures q) e m n = let rest = procs_one p q e m n in (rest.0, refl, rest.1, rest.2)
measures_one (no_measures p) (more_measures (measure_def q) qs) e m n = absurd (procs_begin (λ f. cc) (λ f. cc) p _ _ _ e)
measures_one (more_measures (measure_def p) ps) (no_measures q) e m n = absurd (procs_begin (λ f. cc) (λ f. cc) q _ _ _ (sym e))
measures_one (more_measures p ps) (more_measures q qs) e m n =
    let first = measure_one p q e in
    let rest = measures_one ps qs first.0 m n in
    (rest.0, cc, rest.2, rest.3)

pub types_one : {from from' to to' : List Lexeme} {s t : List TypeDef} {x y : List MeasureDef} {p q : List ProcDef} {a b : List Name} → FromTypes from to s x p a → FromTypes from' to' t y q b → from ≡ from' → No (kind.Word KwAnalyze) to → No (kind.Word KwAnalyze) to' → (to ≡ to') × (s ≡ t) × (x ≡ y) × (p ≡ q) × (a ≡ b)
types_one (no_types p) (no_types q) e m n = let rest = measures_one p q e m n in (rest.0, refl, rest.1, rest.2, rest.3)
types_one (no_types p) (more_types (type_def q r) qs) e m n = absurd (measures_begin (λ f. cc) (λ f. cc) (λ f. cc) p _ _ _ e)
types_one (more_types (type_def p r) ps) (no_types q) e m n = absurd (measures_begin (λ f. cc) (λ f. cc) (λ f. cc) q _ _ _ (sym e))
types_one (more_types p ps) (more_types q qs) e m n =
    let first = type_def_one p q e in
    let rest = types_one ps qs first.0 m n in
    (rest.0, cc, rest.2, rest.3, rest.4)

-- a program is read in one way, where no `analyze` comes behind it
pub program_reads_one : {from from' to to' : List Lexeme} {s t : Source} → IsProgram from to s → IsProgram from' to' t → from ≡ from' → No (kind.Word KwAnalyze) to → No (kind.Word KwAnalyze) to' → (to ≡ to') × (s ≡ t)
program_reads_one (labelled p) (labelled q) e m n = let rest = types_one p q (cc) m n in (rest.0, cc)
program_reads_one (labelled p) (unlabelled q) e m n = cc
program_reads_one (labelled p) (unlabelled_unsaid q) e m n = absurd (types_begin (λ f. cc) (λ f. cc) (λ f. cc) (λ f. cc) q _ _ _ (sym e))
program_reads_one (unlabelled p) (labelled q) e m n = cc
program_reads_one (unlabelled p) (unlabelled q) e m n = let rest = types_one p q (cc) m n in (rest.0, cc)
program_reads_one (unlabelled p) (unlabelled_unsaid q) e m n = absurd (types_begin (λ f. cc) (λ f. cc) (λ f. cc) (λ f. cc) q _ _ _ (sym e))
program_reads_one (unlabelled_unsaid p) (labelled q) e m n = absurd (types_begin (λ f. cc) (λ f. cc) (λ f. cc) (λ f. cc) p _ _ _ e)
program_reads_one (unlabelled_unsaid p) (unlabelled q) e m n = absurd (types_begin (λ f. cc) (λ f. cc) (λ f. cc) (λ f. cc) p _ _ _ e)
program_reads_one (unlabelled_unsaid p) (unlabelled_unsaid q) e m n = let rest = types_one p q e m n in (rest.0, cc)

pub program_one : {ls : List Lexeme} {s t : Source} → IsProgram ls [] s → IsProgram ls [] t → s ≡ t
program_one p q = (program_reads_one p q refl (λ bytes at rest f. cc) (λ bytes at rest f. cc)).1
