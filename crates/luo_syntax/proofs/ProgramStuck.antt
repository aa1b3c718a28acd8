-- Programs that stop do so before other lists too, and can be gone on with up to there.
use Rattle.std.proofs.Common.{◌≡◌, ℕ, List, [], ◌∷◌, refl, ap, sym, ◌∙◌}
use Rattle.luo_scan.specs.declared.token.Word.TheVariants.{KwLabelled, KwUnlabelled, KwType, KwMeasure, KwProcedure, KwAnalyze}
use Rattle.luo_scan.specs.declared.token.Mark.TheVariants.{Semicolon}
use Rattle.luo_scan.specs.declared.token.TokenKind.{TokenKind}
use Rattle.luo_scan.specs.declared.token.TokenKind.TheVariants as kind
use Rattle.luo_scan.specs.Lexemes.{Lexeme, lexeme}
use Rattle.luo_source.specs.declared.names.Name.{Name}
use Rattle.luo_source.specs.declared.types.TypeDef.{TypeDef}
use Rattle.luo_source.specs.declared.types.MeasureDef.{MeasureDef}
use Rattle.luo_source.specs.declared.source.ProcDef.{ProcDef}
use Rattle.luo_source.specs.declared.source.Source.{Source}
use Rattle.luo_syntax.specs.inner.Next.{next}
use Rattle.luo_source.specs.GrammarTypes.{type_def, measure_def}
use Rattle.luo_source.specs.Grammar.{proc, analyze, AreAnalyses, last_analysis, more_analyses, FromProcs, no_procs, more_procs, FromMeasures, no_measures, more_measures, FromTypes, no_types, more_types, IsProgram, labelled, unlabelled, unlabelled_unsaid}
use Rattle.luo_syntax.specs.Viable.{AllSpelled}
use Rattle.luo_syntax.specs.inner.StopsProgram.{AnalysesStop, in_analysis, past_analysis, FromProcsStop, in_proc, past_proc, past_procs, FromMeasuresStop, in_measure, past_measure, past_measures, FromTypesStop, in_type, past_type, past_types, labelled_said, unlabelled_said, nothing_said, past_labelled, past_unlabelled, ProgramStops, in_head, past_head}
use Rattle.luo_syntax.proofs.Prefixes.{nothing, put, both, Stuck}
use Rattle.luo_syntax.proofs.Begins.{next_before, no_before, some_before}
use Rattle.luo_source.proofs.Behind.{behind}
use Rattle.luo_syntax.proofs.Nexts.{misses_alike, next_no}
use Rattle.luo_syntax.proofs.Spelled.{a_name, a_mark, a_word, name_fit, mark_fit, word_fit}
use Rattle.luo_source.proofs.OneTypes.{type_def_one, measure_one}
use Rattle.luo_source.proofs.OneProgram.{proc_one, analyze_one, analyses_begin, procs_begin, measures_begin, types_begin}
use Rattle.luo_syntax.proofs.ProcMoves.{proc_moves, analyze_moves}
use Rattle.luo_syntax.proofs.ProcStuck.{proc_stuck, proc_no, analyze_stuck, analyze_no}
use Rattle.luo_syntax.proofs.TypesMoves.{type_def_moves, measure_moves}
use Rattle.luo_syntax.proofs.TypesStuck.{type_def_stuck, measure_stuck}
use Rattle.luo_syntax.proofs.TypesNo.{type_def_no, measure_no}

-- one analysis, with which a program may end
abbrev an_analysis : List Lexeme → List Lexeme
an_analysis to = a_word KwAnalyze ∷ a_name ∷ a_mark Semicolon ∷ to

an_analysis_fit : (to : List Lexeme) → AllSpelled to → AllSpelled (an_analysis to)
an_analysis_fit to s = (word_fit KwAnalyze, (name_fit, (mark_fit Semicolon, s)))

analyses_stuck : {from at : List Lexeme} → AnalysesStop from at → Stuck (List Name) AnalysesStop AreAnalyses from at
analyses_stuck (in_analysis s) = let k = analyze_stuck s in record {
  prefix = k.prefix;
  cut = k.cut;
  alike = λ o t. in_analysis (k.alike o t);
  goes_on = λ to f. let g = k.goes_on to f in (g.0, g.1, _, last_analysis g.3);
}
analyses_stuck (past_analysis p n s) = let m = analyze_moves p in let k = analyses_stuck s in record {
  prefix = both m.prefix k.prefix;
  cut = m.cut ∙ ap m.prefix.before k.cut;
  alike = λ o t. past_analysis (m.moves _) (some_before k.prefix k.cut n t) (k.alike o t);
  goes_on = λ to f. let g = k.goes_on to f in (g.0, g.1, _, more_analyses (m.moves _) g.3);
}

analyses_no : {from from' at : List Lexeme} {names : List Name} → AnalysesStop from at → AreAnalyses from' [] names → from ≡ from' → ⊥
analyses_no (in_analysis s) (last_analysis q) e = analyze_no s q e
analyses_no (in_analysis s) (more_analyses q qs) e = analyze_no s q e
analyses_no (past_analysis p n s) (last_analysis q) e = n (analyze_one p q e).0
analyses_no (past_analysis p n s) (more_analyses q qs) e = analyses_no s qs (analyze_one p q e).0

-- what is read behind the measures, in one
abbrev ReadsProcs : List Lexeme → List Lexeme → List ProcDef × List Name → Type 0
ReadsProcs from to r = FromProcs from to r.0 r.1

procs_stuck : {from at : List Lexeme} → FromProcsStop from at → Stuck (List ProcDef × List Name) FromProcsStop ReadsProcs from at
procs_stuck (in_proc n s) = let k = proc_stuck s in record {
  prefix = k.prefix;
  cut = k.cut;
  alike = λ o t. in_proc (next_before k.prefix k.cut n t).1 (k.alike o t);
  goes_on = λ to f. let g = k.goes_on (an_analysis to) (an_analysis_fit to f) in (g.0, g.1, (_, _), more_procs g.3 (no_procs (last_analysis analyze)));
}
procs_stuck (past_proc p s) = let m = proc_moves p in let k = procs_stuck s in record {
  prefix = both m.prefix k.prefix;
  cut = m.cut ∙ ap m.prefix.before k.cut;
  alike = λ o t. past_proc (m.moves _) (k.alike o t);
  goes_on = λ to f. let g = k.goes_on to f in (g.0, g.1, (_, _), more_procs (m.moves _) g.3);
}
procs_stuck (past_procs n s) = let k = analyses_stuck s in record {
  prefix = k.prefix;
  cut = k.cut;
  alike = λ o t. past_procs (no_before k.prefix k.cut n t) (k.alike o t);
  goes_on = λ to f. let g = k.goes_on to f in (g.0, g.1, (_, _), no_procs g.3);
}

procs_no : {from from' at : List Lexeme} {procs : List ProcDef} {names : List Name} → FromProcsStop from at → FromProcs from' [] procs names → from ≡ from' → ⊥
procs_no (in_proc n s) (no_procs q) e = next_no n (analyses_begin (λ f. cc) q) e
procs_no (in_proc n s) (more_procs q qs) e = proc_no s q e
procs_no (past_proc (proc p) s) (no_procs q) e = analyses_begin (λ f. cc) q _ _ _ (sym e)
procs_no (past_proc p s) (more_procs q qs) e = procs_no s qs (proc_one p q e).0
procs_no (past_procs n s) (no_procs q) e = analyses_no s q e
procs_no (past_procs n s) (more_procs (proc q) qs) e = n _ _ _ e

abbrev ReadsMeasures : List Lexeme → List Lexeme → List MeasureDef × List ProcDef × List Name → Type 0
ReadsMeasures from to r = FromMeasures from to r.0 r.1 r.2

measures_stuck : {from at : List Lexeme} → FromMeasuresStop from at → Stuck (List MeasureDef × List ProcDef × List Name) FromMeasuresStop ReadsMeasures from at
measures_stuck (in_measure n s) = let k = measure_stuck s in record {
  prefix = k.prefix;
  cut = k.cut;
  alike = λ o t. in_measure (next_before k.prefix k.cut n t).1 (k.alike o t);
  goes_on = λ to f. let g = k.goes_on (an_analysis to) (an_analysis_fit to f) in (g.0, g.1, (_, _, _), more_measures g.3 (no_measures (no_procs (last_analysis analyze))));
}
measures_stuck (past_measure p s) = let m = measure_moves p in let k = measures_stuck s in record {
  prefix = both m.prefix k.prefix;
  cut = m.cut ∙ ap m.prefix.before k.cut;
  alike = λ o t. past_measure (m.moves _) (k.alike o t);
  goes_on = λ to f. let g = k.goes_on to f in (g.0, g.1, (_, _, _), more_measures (m.moves _) g.3);
}
measures_stuck (past_measures n s) = let k = procs_stuck s in record {
  prefix = k.prefix;
  cut = k.cut;
  alike = λ o t. past_measures (no_before k.prefix k.cut n t) (k.alike o t);
  goes_on = λ to f. let g = k.goes_on to f in (g.0, g.1, (_, _, _), no_measures g.3);
}

measures_no : {from from' at : List Lexeme} {measures : List MeasureDef} {procs : List ProcDef} {names : List Name} → FromMeasuresStop from at → FromMeasures from' [] measures procs names → from ≡ from' → ⊥
measures_no (in_measure n s) (no_measures q) e = next_no n (procs_begin (λ f. cc) (λ f. cc) q) e
measures_no (in_measure n s) (more_measures q qs) e = measure_no s q e
measures_no (past_measure (measure_def p) s) (no_measures q) e = procs_begin (λ f. cc) (λ f. cc) q _ _ _ (sym e)
measures_no (past_measure p s) (more_measures q qs) e = measures_no s qs (measure_one p q e).0
measures_no (past_measures n s) (no_measures q) e = procs_no s q e
measures_no (past_measures n s) (more_measures (measure_def q) qs) e = n _ _ _ e

abbrev ReadsTypes : List Lexeme → List Lexeme → List TypeDef × List MeasureDef × List ProcDef × List Name → Type 0
ReadsTypes from to r = FromTypes from to r.0 r.1 r.2 r.3

types_stuck : {from at : List Lexeme} → FromTypesStop from at → Stuck (List TypeDef × List MeasureDef × List ProcDef × List Name) FromTypesStop ReadsTypes from at
types_stuck (in_type n s) = let k = type_def_stuck s in record {
  prefix = k.prefix;
  cut = k.cut;
  alike = λ o t. in_type (next_before k.prefix k.cut n t).1 (k.alike o t);
  goes_on = λ to f. let g = k.goes_on (an_analysis to) (an_analysis_fit to f) in (g.0, g.1, (_, _, _, _), more_types g.3 (no_types (no_measures (no_procs (last_analysis analyze)))));
}
types_stuck (past_type p s) = let m = type_def_moves p in let k = types_stuck s in record {
  prefix = both m.prefix k.prefix;
  cut = m.cut ∙ ap m.prefix.before k.cut;
  alike = λ o t. past_type (m.moves _) (k.alike o t);
  goes_on = λ to f. let g = k.goes_on to f in (g.0, g.1, (_, _, _, _), more_types (m.moves _) g.3);
}
types_stuck (past_types n s) = let k = measures_stuck s in record {
  prefix = k.prefix;
  cut = k.cut;
  alike = λ o t. past_types (no_before k.prefix k.cut n t) (k.alike o t);
  goes_on = λ to f. let g = k.goes_on to f in (g.0, g.1, (_, _, _, _), no_types g.3);
}

types_no : {from from' at : List Lexeme} {types : List TypeDef} {measures : List MeasureDef} {procs : List ProcDef} {names : List Name} → FromTypesStop from at → FromTypes from' [] types measures procs names → from ≡ from' → ⊥
types_no (in_type n s) (no_types q) e = next_no n (measures_begin (λ f. cc) (λ f. cc) (λ f. cc) q) e
types_no (in_type n s) (more_types q qs) e = type_def_no s q e
types_no (past_type (type_def p r) s) (no_types q) e = measures_begin (λ f. cc) (λ f. cc) (λ f. cc) q _ _ _ (sym e)
types_no (past_type p s) (more_types q qs) e = types_no s qs (type_def_one p q e).0
types_no (past_types n s) (no_types q) e = measures_no s q e
types_no (past_types n s) (more_types (type_def q r) qs) e = n _ _ _ e

pub program_stuck : {from at : List Lexeme} → ProgramStops from at → Stuck Source ProgramStops IsProgram from at
program_stuck (in_head (past_labelled (next {bytes = b} {at = k}) m)) = record {
  prefix = put (lexeme (kind.Word KwLabelled) b k) nothing;
  cut = ap (λ z. lexeme (kind.Word KwLabelled) b k ∷ z) (sym m.0);
  alike = λ o t. in_head (past_labelled next (misses_alike m t));
  goes_on = λ to f. (a_mark Semicolon ∷ an_analysis to, (mark_fit Semicolon, an_analysis_fit to f), _, labelled (no_types (no_measures (no_procs (last_analysis analyze)))));
}
program_stuck (in_head (past_unlabelled (next {bytes = b} {at = k}) m)) = record {
  prefix = put (lexeme (kind.Word KwUnlabelled) b k) nothing;
  cut = ap (λ z. lexeme (kind.Word KwUnlabelled) b k ∷ z) (sym m.0);
  alike = λ o t. in_head (past_unlabelled next (misses_alike m t));
  goes_on = λ to f. (a_mark Semicolon ∷ an_analysis to, (mark_fit Semicolon, an_analysis_fit to f), _, unlabelled (no_types (no_measures (no_procs (last_analysis analyze)))));
}
program_stuck (past_head (labelled_said (next {bytes = b} {at = k}) (next {bytes = c} {at = l})) s) = let r = types_stuck s in record {
  prefix = put (lexeme (kind.Word KwLabelled) b k) (put (lexeme (kind.Mark Semicolon) c l) r.prefix);
  cut = ap (λ z. lexeme (kind.Word KwLabelled) b k ∷ lexeme (kind.Mark Semicolon) c l ∷ z) r.cut;
  alike = λ o t. past_head (labelled_said next next) (r.alike o t);
  goes_on = λ to f. let g = r.goes_on to f in (g.0, g.1, _, labelled g.3);
}
program_stuck (past_head (unlabelled_said (next {bytes = b} {at = k}) (next {bytes = c} {at = l})) s) = let r = types_stuck s in record {
  prefix = put (lexeme (kind.Word KwUnlabelled) b k) (put (lexeme (kind.Mark Semicolon) c l) r.prefix);
  cut = ap (λ z. lexeme (kind.Word KwUnlabelled) b k ∷ lexeme (kind.Mark Semicolon) c l ∷ z) r.cut;
  alike = λ o t. past_head (unlabelled_said next next) (r.alike o t);
  goes_on = λ to f. let g = r.goes_on to f in (g.0, g.1, _, unlabelled g.3);
}
program_stuck (past_head (nothing_said m n) s) = let r = types_stuck s in record {
  prefix = r.prefix;
  cut = sym m.0 ∙ r.cut;
  alike = λ o t. past_head (nothing_said (refl, no_before r.prefix (sym m.0 ∙ r.cut) m.1 t) (no_before r.prefix (sym m.0 ∙ r.cut) n t)) (r.alike o t);
  goes_on = λ to f. let g = r.goes_on to f in (g.0, g.1, _, unlabelled_unsaid g.3);
}

-- types and all behind begin with no word of a head
headless : {what : TokenKind} {from : List Lexeme} {types : List TypeDef} {measures : List MeasureDef} {procs : List ProcDef} {names : List Name} → (kind.Word KwAnalyze ≡ what → ⊥) → (kind.Word KwProcedure ≡ what → ⊥) → (kind.Word KwMeasure ≡ what → ⊥) → (kind.Word KwType ≡ what → ⊥) → FromTypes from [] types measures procs names → {at : List Lexeme} {b : List ℕ} {k : ℕ} → lexeme what b k ∷ at ≡ from → ⊥
headless a b c d q e = types_begin a b c d q _ _ _ (sym e)

pub program_no : {from from' at : List Lexeme} {s : Source} → ProgramStops from at → IsProgram from' [] s → from ≡ from' → ⊥
program_no (in_head (past_labelled next m)) (labelled q) e = m.1 _ _ _ (behind e)
program_no (in_head (past_labelled next m)) (unlabelled q) e = cc
program_no (in_head (past_labelled next m)) (unlabelled_unsaid q) e = headless (λ f. cc) (λ f. cc) (λ f. cc) (λ f. cc) q e
program_no (in_head (past_unlabelled next m)) (labelled q) e = cc
program_no (in_head (past_unlabelled next m)) (unlabelled q) e = m.1 _ _ _ (behind e)
program_no (in_head (past_unlabelled next m)) (unlabelled_unsaid q) e = headless (λ f. cc) (λ f. cc) (λ f. cc) (λ f. cc) q e
program_no (past_head (labelled_said next next) s) (labelled q) e = types_no s q (behind (behind e))
program_no (past_head (labelled_said next next) s) (unlabelled q) e = cc
program_no (past_head (labelled_said next next) s) (unlabelled_unsaid q) e = headless (λ f. cc) (λ f. cc) (λ f. cc) (λ f. cc) q e
program_no (past_head (unlabelled_said next next) s) (labelled q) e = cc
program_no (past_head (unlabelled_said next next) s) (unlabelled q) e = types_no s q (behind (behind e))
program_no (past_head (unlabelled_said next next) s) (unlabelled_unsaid q) e = headless (λ f. cc) (λ f. cc) (λ f. cc) (λ f. cc) q e
program_no (past_head (nothing_said m n) s) (labelled q) e = m.1 _ _ _ e
program_no (past_head (nothing_said m n) s) (unlabelled q) e = n _ _ _ e
program_no (past_head (nothing_said m n) s) (unlabelled_unsaid q) e = types_no s q (m.0 ∙ e)
