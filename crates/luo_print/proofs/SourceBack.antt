-- The texts of procedures and whole sources read back.
use Rattle.std.proofs.Common.{◌≡◌, ℕ, List, [], ◌∷◌, ◌++◌, refl, sym, ◌∙◌, subst, append_assoc, map, flat_map}
use Rattle.std.specs.List.{AllZip}
use Rattle.std.proofs.lemmas.List.{append-nil}
use Rattle.luo_scan.specs.declared.token.Token.{Token}
use Rattle.luo_scan.specs.declared.token.Word.TheVariants.{KwLabelled, KwUnlabelled, KwProcedure, KwAnalyze}
use Rattle.luo_scan.specs.declared.token.Mark.TheVariants.{Semicolon, LeftRound, RightRound, Colon}
use Rattle.luo_scan.specs.declared.token.TokenKind.TheVariants as kind
use Rattle.luo_scan.specs.Lexemes.{Lexeme, lexemes_from}
use Rattle.luo_scan.specs.Tokens.{Tokens}
use Rattle.luo_scan.proofs.Inside.{lexemes_fit}
use Rattle.luo_model.specs.declared.program.Universe.TheVariants.{Unlabelled, Labelled}
use Rattle.luo_source.specs.declared.names.Name.{Name}
use Rattle.luo_source.specs.declared.types.TypeDef.{TypeDef}
use Rattle.luo_source.specs.declared.types.MeasureDef.{MeasureDef}
use Rattle.luo_source.specs.declared.statements.Stmt.{Stmt}
use Rattle.luo_source.specs.declared.values.SourceValue.{SourceValue}
use Rattle.luo_source.specs.declared.source.ProcBody.{ProcBody}
use Rattle.luo_source.specs.declared.source.ProcBody.TheVariants.{Statements, Value}
use Rattle.luo_source.specs.declared.source.ProcDef.{ProcDef}
use Rattle.luo_source.specs.declared.source.Source.{Source}
use Rattle.luo_source.specs.View.{type_def_of, proc_body_of, proc_def_of, plain_source}
use Rattle.luo_source.specs.Grammar.{IsProcBody, statements_body, value_body, IsProc, proc, IsAnalyze, analyze, AreAnalyses, last_analysis, more_analyses, FromProcs, no_procs, more_procs, FromMeasures, no_measures, more_measures, FromTypes, no_types, more_types, IsProgram, labelled, unlabelled, unlabelled_unsaid, Derives}
use Rattle.luo_print.specs.CanonicalTypes.{type_def_line, measure_line}
use Rattle.luo_print.specs.Canonical.{universe_line, body_text, proc_text, analyze_line, canonical}
use Rattle.luo_print.specs.Same.{SameName, SameNames, SameTypeDef, SameMeasure, SameBody, SameProc, SameSource}
use Rattle.luo_print.specs.Laws.{ReadsBack}
use Rattle.luo_print.proofs.Cuts.{Quiet, Any, Cut, cut_end, Reads, Then, Takes, takes, seq, next, read_as, read_text, name_reads, quiet_space}
use Rattle.luo_print.proofs.Literals as lit
use Rattle.luo_print.proofs.Literals.{TakesWord, TakesMark}
use Rattle.luo_print.proofs.TypesBack.{AllFit, quiet_close, quiet_semicolon, TypeDefAs, type_def_back, MeasureAs, measure_back}
use Rattle.luo_print.proofs.StatementsBack.{BlockAs, block_back}
use Rattle.luo_print.proofs.ValuesBack.{ValueAs, value_back}

abbrev BodyAs : ProcBody → List Lexeme → List Lexeme → Type 0
BodyAs body from to = (other : ProcBody) × IsProcBody from to other × SameBody (proc_body_of body) (proc_body_of other)

abbrev ProcAs : ProcDef → List Lexeme → List Lexeme → Type 0
ProcAs p from to = (other : ProcDef) × IsProc from to other × SameProc (proc_def_of p) (proc_def_of other)

abbrev AnalyzeAs : Name → List Lexeme → List Lexeme → Type 0
AnalyzeAs name from to = (other : Name) × IsAnalyze from to other × SameName name other

abbrev AnalysesAs : List Name → List Lexeme → List Lexeme → Type 0
AnalysesAs names from to = (others : List Name) × AreAnalyses from to others × SameNames names others

abbrev ProcsAs : List ProcDef → List Name → List Lexeme → List Lexeme → Type 0
ProcsAs procs names from to = (ps : List ProcDef) × (ns : List Name) × FromProcs from to ps ns × AllZip SameProc (map proc_def_of procs) (map proc_def_of ps) × SameNames names ns

abbrev MeasuresAs : List MeasureDef → List ProcDef → List Name → List Lexeme → List Lexeme → Type 0
MeasuresAs measures procs names from to =
    (ms : List MeasureDef) × (ps : List ProcDef) × (ns : List Name) × FromMeasures from to ms ps ns × AllZip SameMeasure measures ms × AllZip SameProc (map proc_def_of procs) (map proc_def_of ps) × SameNames names ns

abbrev TypesAs : List TypeDef → List MeasureDef → List ProcDef → List Name → List Lexeme → List Lexeme → Type 0
TypesAs types measures procs names from to =
    (ts : List TypeDef) × (ms : List MeasureDef) × (ps : List ProcDef) × (ns : List Name) × FromTypes from to ts ms ps ns × AllZip SameTypeDef (map type_def_of types) (map type_def_of ts) × AllZip SameMeasure measures ms × AllZip SameProc (map proc_def_of procs) (map proc_def_of ps) × SameNames names ns

abbrev ProgramAs : Source → List Lexeme → List Lexeme → Type 0
ProgramAs source from to = (other : Source) × IsProgram from to other × SameSource (plain_source source) (plain_source other)

-- procedures

statements_step : (ss : List Stmt) (from to : List Lexeme) → Then (TakesMark Semicolon) (BlockAs ss) from to → BodyAs (Statements ss) from to
statements_step ss from to (one, takes, (ts, d, s)) = (Statements ts, statements_body d, s)

value_step : (text : List ℕ) (colon at : ℕ) (v : SourceValue) (from to : List Lexeme) → Then (Then (Then (TakesMark Colon) (Takes kind.Name text)) (TakesMark Semicolon)) (ValueAs v) from to → BodyAs (Value colon (record { text = text; at = at }) v) from to
value_step text colon at v from to (three, (two, (one, takes {at = i}, takes {at = j}), takes), (w, d, s)) = (Value i (record { text = text; at = j }) w, value_body d, (refl, s))

body_back : {from to : List Lexeme} {body : ProcBody} → IsProcBody from to body → AllFit from → AllFit to × Reads Quiet (body_text (proc_body_of body)) (BodyAs body)
body_back (statements_body {stmts = ss} d) f =
    let r = block_back 0 d f.1 in
    (r.0, read_as (next lit.semicolon_line r.1) (statements_step ss))
body_back (value_body {text = text} {colon = colon} {at = at} {v = v} d) f =
    let r = value_back 0 d f.1.1.1 in
    (r.0, read_as (next (seq (next lit.colon (name_reads text at f.1.0)) lit.semicolon_line (λ rest d. quiet_semicolon [])) r.1) (value_step text colon at v))

abbrev HeadAs : List ℕ → List ℕ → List ℕ → List Lexeme → List Lexeme → Type 0
HeadAs name param on = Then (Then (Then (Then (Then (Then (TakesWord KwProcedure) (Takes kind.Name name)) (TakesMark LeftRound)) (Takes kind.Name param)) (TakesMark Colon)) (Takes kind.Name on)) (TakesMark RightRound)

proc_step : (name param on : List ℕ) (i j k : ℕ) (body : ProcBody) (from to : List Lexeme) → Then (Then (HeadAs name param on) (BodyAs body)) (TakesMark Semicolon) from to
    → ProcAs (record { name = record { text = name; at = i }; param = record { text = param; at = j }; on = record { text = on; at = k }; body = body }) from to
proc_step name param on i j k body from to (eight, (seven, (six, (five, (four, (three, (two, (one, takes, takes {at = x}), takes), takes {at = y}), takes), takes {at = z}), takes), (other, d, s)), takes) =
    (record { name = record { text = name; at = x }; param = record { text = param; at = y }; on = record { text = on; at = z }; body = other }, proc d, (refl, refl, refl, s))

proc_back : {from to : List Lexeme} {p : ProcDef} → IsProc from to p → AllFit from → AllFit to × Reads Any (proc_text (proc_def_of p)) (ProcAs p)
proc_back (proc {text = name} {param = param} {type = on} {at = i} {param_at = j} {type_at = k} {body = body} d) f =
    let r = body_back d f.1.1.1.1.1.1.1 in
    let named = seq (next lit.procedure_word (name_reads name i f.1.0)) lit.opening_round (λ rest d. lit.quiet_round []) in
    let bound = seq (next named (name_reads param j f.1.1.1.0)) lit.colon (λ rest d. quiet_space []) in
    let head = seq (next bound (name_reads on k f.1.1.1.1.1.0)) lit.closing_round (λ rest d. quiet_close []) in
    (r.0.1, read_as (seq (next head r.1) lit.semicolon_line (λ rest d. quiet_semicolon [])) (proc_step name param on i j k body))

-- analyze lines

analyze_step : (text : List ℕ) (at : ℕ) (from to : List Lexeme) → Then (Then (TakesWord KwAnalyze) (Takes kind.Name text)) (TakesMark Semicolon) from to → AnalyzeAs (record { text = text; at = at }) from to
analyze_step text at from to (two, (one, takes, takes {at = k}), takes) = (record { text = text; at = k }, analyze, refl)

analyze_back : {from to : List Lexeme} {name : Name} → IsAnalyze from to name → AllFit from → AllFit to × Reads Any (analyze_line name) (AnalyzeAs name)
analyze_back (analyze {text = text} {at = at}) f = (f.1.1.1, read_as (seq (next lit.analyze_word (name_reads text at f.1.0)) lit.semicolon_line (λ rest d. quiet_semicolon [])) (analyze_step text at))

last_step : (name : Name) (from to : List Lexeme) → AnalyzeAs name from to → AnalysesAs (name ∷ []) from to
last_step name from to (other, p, s) = (other ∷ [], last_analysis p, (s, tt))

more_step : (name : Name) (names : List Name) (from to : List Lexeme) → Then (AnalyzeAs name) (AnalysesAs names) from to → AnalysesAs (name ∷ names) from to
more_step name names from to (one, (other, p, s), (others, ps, ss)) = (other ∷ others, more_analyses p ps, (s, ss))

analyses_back : {from to : List Lexeme} {names : List Name} → AreAnalyses from to names → AllFit from → AllFit to × Reads Any (flat_map analyze_line names) (AnalysesAs names)
analyses_back (last_analysis {name = name} p) f = let r = analyze_back p f in (r.0, read_text (sym (append-nil (analyze_line name))) (read_as r.1 (last_step name)))
analyses_back (more_analyses {name = name} {names = names} p ps) f =
    let r = analyze_back p f in
    let s = analyses_back ps r.0 in
    (s.0, read_as (next r.1 s.1) (more_step name names))

-- the parts of a program

abbrev procs_text : List ProcDef → List Name → List ℕ
procs_text procs names = flat_map proc_text (map proc_def_of procs) ++ flat_map analyze_line names

abbrev measures_text : List MeasureDef → List ProcDef → List Name → List ℕ
measures_text measures procs names = flat_map measure_line measures ++ procs_text procs names

abbrev types_text : List TypeDef → List MeasureDef → List ProcDef → List Name → List ℕ
types_text types measures procs names = flat_map type_def_line (map type_def_of types) ++ measures_text measures procs names

no_procs_step : (names : List Name) (from to : List Lexeme) → AnalysesAs names from to → ProcsAs [] names from to
no_procs_step names from to (ns, d, s) = ([], ns, no_procs d, tt, s)

more_procs_step : (p : ProcDef) (procs : List ProcDef) (names : List Name) (from to : List Lexeme) → Then (ProcAs p) (ProcsAs procs names) from to → ProcsAs (p ∷ procs) names from to
more_procs_step p procs names from to (one, (q, d, s), (ps, ns, ds, ss, e)) = (q ∷ ps, ns, more_procs d ds, (s, ss), e)

procs_back : {from to : List Lexeme} {procs : List ProcDef} {names : List Name} → FromProcs from to procs names → AllFit from → AllFit to × Reads Any (procs_text procs names) (ProcsAs procs names)
procs_back (no_procs {names = names} d) f = let r = analyses_back d f in (r.0, read_as r.1 (no_procs_step names))
procs_back (more_procs {p = p} {procs = procs} {names = names} d ds) f =
    let r = proc_back d f in
    let s = procs_back ds r.0 in
    (s.0, read_text (sym (append_assoc (proc_text (proc_def_of p)) (flat_map proc_text (map proc_def_of procs)) (flat_map analyze_line names))) (read_as (next r.1 s.1) (more_procs_step p procs names)))

no_measures_step : (procs : List ProcDef) (names : List Name) (from to : List Lexeme) → ProcsAs procs names from to → MeasuresAs [] procs names from to
no_measures_step procs names from to (ps, ns, d, s, e) = ([], ps, ns, no_measures d, tt, s, e)

more_measures_step : (m : MeasureDef) (measures : List MeasureDef) (procs : List ProcDef) (names : List Name) (from to : List Lexeme) → Then (MeasureAs m) (MeasuresAs measures procs names) from to → MeasuresAs (m ∷ measures) procs names from to
more_measures_step m measures procs names from to (one, (n, d, s), (ms, ps, ns, ds, ss, e, g)) = (n ∷ ms, ps, ns, more_measures d ds, (s, ss), e, g)

measures_back : {from to : List Lexeme} {measures : List MeasureDef} {procs : List ProcDef} {names : List Name} → FromMeasures from to measures procs names → AllFit from
    → AllFit to × Reads Any (measures_text measures procs names) (MeasuresAs measures procs names)
measures_back (no_measures {procs = procs} {names = names} d) f = let r = procs_back d f in (r.0, read_as r.1 (no_measures_step procs names))
measures_back (more_measures {m = m} {measures = measures} {procs = procs} {names = names} d ds) f =
    let r = measure_back d f in
    let s = measures_back ds r.0 in
    (s.0, read_text (sym (append_assoc (measure_line m) (flat_map measure_line measures) (procs_text procs names))) (read_as (next r.1 s.1) (more_measures_step m measures procs names)))

no_types_step : (measures : List MeasureDef) (procs : List ProcDef) (names : List Name) (from to : List Lexeme) → MeasuresAs measures procs names from to → TypesAs [] measures procs names from to
no_types_step measures procs names from to (ms, ps, ns, d, s, e, g) = ([], ms, ps, ns, no_types d, tt, s, e, g)

more_types_step : (t : TypeDef) (types : List TypeDef) (measures : List MeasureDef) (procs : List ProcDef) (names : List Name) (from to : List Lexeme) → Then (TypeDefAs t) (TypesAs types measures procs names) from to → TypesAs (t ∷ types) measures procs names from to
more_types_step t types measures procs names from to (one, (u, d, s), (ts, ms, ps, ns, ds, ss, e, g, h)) = (u ∷ ts, ms, ps, ns, more_types d ds, (s, ss), e, g, h)

types_back : {from to : List Lexeme} {types : List TypeDef} {measures : List MeasureDef} {procs : List ProcDef} {names : List Name} → FromTypes from to types measures procs names → AllFit from
    → AllFit to × Reads Any (types_text types measures procs names) (TypesAs types measures procs names)
types_back (no_types {measures = measures} {procs = procs} {names = names} d) f = let r = measures_back d f in (r.0, read_as r.1 (no_types_step measures procs names))
types_back (more_types {t = t} {types = types} {measures = measures} {procs = procs} {names = names} d ds) f =
    let r = type_def_back d f in
    let s = types_back ds r.0 in
    (s.0, read_text (sym (append_assoc (type_def_line (type_def_of t)) (flat_map type_def_line (map type_def_of types)) (measures_text measures procs names))) (read_as (next r.1 s.1) (more_types_step t types measures procs names)))

-- whole sources

labelled_step : (types : List TypeDef) (measures : List MeasureDef) (procs : List ProcDef) (names : List Name) (from to : List Lexeme) → Then (Then (TakesWord KwLabelled) (TakesMark Semicolon)) (TypesAs types measures procs names) from to
    → ProgramAs (record { universe = Labelled; types = types; measures = measures; procs = procs; analyses = names }) from to
labelled_step types measures procs names from to (two, (one, takes, takes), (ts, ms, ps, ns, d, e, g, h, i)) =
    (record { universe = Labelled; types = ts; measures = ms; procs = ps; analyses = ns }, labelled d, (refl, e, g, h, i))

unlabelled_step : (types : List TypeDef) (measures : List MeasureDef) (procs : List ProcDef) (names : List Name) (from to : List Lexeme) → Then (Then (TakesWord KwUnlabelled) (TakesMark Semicolon)) (TypesAs types measures procs names) from to
    → ProgramAs (record { universe = Unlabelled; types = types; measures = measures; procs = procs; analyses = names }) from to
unlabelled_step types measures procs names from to (two, (one, takes, takes), (ts, ms, ps, ns, d, e, g, h, i)) =
    (record { universe = Unlabelled; types = ts; measures = ms; procs = ps; analyses = ns }, unlabelled d, (refl, e, g, h, i))

nested : (a b c d e : List ℕ) → a ++ (b ++ (c ++ (d ++ e))) ≡ a ++ b ++ c ++ d ++ e
nested a b c d e = sym (append_assoc (a ++ b ++ c) d e ∙ append_assoc (a ++ b) c (d ++ e) ∙ append_assoc a b (c ++ (d ++ e)))

in_order : (source : Source) → universe_line source.universe ++ types_text source.types source.measures source.procs source.analyses ≡ canonical (plain_source source)
in_order source = nested (universe_line source.universe) (flat_map type_def_line (map type_def_of source.types)) (flat_map measure_line source.measures) (flat_map proc_text (map proc_def_of source.procs)) (flat_map analyze_line source.analyses)

program_back : {from to : List Lexeme} {source : Source} → IsProgram from to source → AllFit from → Reads Any (canonical (plain_source source)) (ProgramAs source)
program_back (labelled {types = types} {measures = measures} {procs = procs} {names = names} d) f =
    read_text (in_order (record { universe = Labelled; types = types; measures = measures; procs = procs; analyses = names })) (read_as (next lit.labelled_line (types_back d f.1.1).1) (labelled_step types measures procs names))
program_back (unlabelled {types = types} {measures = measures} {procs = procs} {names = names} d) f =
    read_text (in_order (record { universe = Unlabelled; types = types; measures = measures; procs = procs; analyses = names })) (read_as (next lit.unlabelled_line (types_back d f.1.1).1) (unlabelled_step types measures procs names))
program_back (unlabelled_unsaid {types = types} {measures = measures} {procs = procs} {names = names} d) f =
    read_text (in_order (record { universe = Unlabelled; types = types; measures = measures; procs = procs; analyses = names })) (read_as (next lit.unlabelled_line (types_back d f).1) (unlabelled_step types measures procs names))

read_whole : (source : Source) → Reads Any (canonical (plain_source source)) (ProgramAs source) → (again : List Token) × (read : Source) × Tokens (canonical (plain_source source)) again × Derives (canonical (plain_source source)) again read × SameSource (plain_source source) (plain_source read)
read_whole source r =
    let x = r.read [] (λ k. []) tt cut_end in
    let c : Cut (canonical (plain_source source)) x.0 = subst (λ t. Cut t x.0) (append-nil (canonical (plain_source source))) x.1 in
    let y = c.cut 0 in
    let e : lexemes_from 0 (canonical (plain_source source)) y.0 ≡ x.0 0 = y.2 (canonical (plain_source source)) 0 refl in
    let p = x.2 0 in
    (y.0, p.1.0, y.1, subst (λ ls. IsProgram ls [] p.1.0) (sym e) p.1.1, p.1.2)

pub reads_back : ReadsBack
reads_back text tokens source t d = read_whole source (program_back d (lexemes_fit text tokens t))
