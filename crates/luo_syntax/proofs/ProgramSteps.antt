-- Steps of reading whole programs.
use Rattle.std.proofs.Common.{◌≡◌, List, [], ◌∷◌, ◌++◌, append_assoc, ap, sym, subst, ◌∙◌}
use Rattle.std.proofs.lemmas.List.{append-nil}
use Rattle.luo_scan.specs.declared.token.Word.TheVariants.{KwLabelled, KwUnlabelled, KwType, KwMeasure, KwProcedure}
use Rattle.luo_scan.specs.declared.token.Mark.TheVariants.{Semicolon}
use Rattle.luo_scan.specs.declared.token.TokenKind.TheVariants as kind
use Rattle.luo_scan.specs.Lexemes.{Lexeme}
use Rattle.luo_model.specs.declared.program.Universe.{Universe}
use Rattle.luo_model.specs.declared.program.Universe.TheVariants.{Unlabelled}
use Rattle.luo_source.specs.declared.names.Name.{Name}
use Rattle.luo_source.specs.declared.types.TypeDef.{TypeDef}
use Rattle.luo_source.specs.declared.types.MeasureDef.{MeasureDef}
use Rattle.luo_source.specs.declared.source.ProcDef.{ProcDef}
use Rattle.luo_source.specs.Ends.{No}
use Rattle.luo_syntax.specs.inner.Next.{IsNext, next, Misses}
use Rattle.luo_source.specs.GrammarTypes.{IsTypeDef, IsMeasure}
use Rattle.luo_source.specs.Grammar.{IsProc, IsAnalyze, AreAnalyses, last_analysis, more_analyses, FromProcs, no_procs, more_procs, FromMeasures, no_measures, more_measures, FromTypes, no_types, more_types, IsProgram, labelled, unlabelled, unlabelled_unsaid}
use Rattle.luo_syntax.specs.inner.StopsProgram.{AnalyzeStops, AnalysesStop, in_analysis, past_analysis, FromProcsStop, past_proc, past_procs, in_proc, FromMeasuresStop, in_measure, past_measure, past_measures, FromTypesStop, in_type, past_type, past_types, IsHead, labelled_said, unlabelled_said, nothing_said, HeadStops, past_labelled, past_unlabelled, ProgramStops, in_head, past_head, PassesProcs, PassesMeasures, PassesTypes}
use Rattle.luo_syntax.proofs.Nexts.{next_past}

-- what is read or stops from here on is read or stops from the start on, behind what there is

pub record TypesSoFar (start at : List Lexeme) (types : List TypeDef) : Type 0 where
  pub reads : (to : List Lexeme) (more : List TypeDef) (measures : List MeasureDef) (procs : List ProcDef) (names : List Name) → FromTypes at to more measures procs names → FromTypes start to (types ++ more) measures procs names
  pub stops : (to : List Lexeme) → FromTypesStop at to → FromTypesStop start to

pub no_types_yet : {start : List Lexeme} → TypesSoFar start start []
no_types_yet = record { reads = λ to more x y z p. p; stops = λ to s. s }

pub one_type_more : {start at next : List Lexeme} {t : TypeDef} {types types' : List TypeDef} → TypesSoFar start at types → IsTypeDef at next t → types' ≡ types ++ t ∷ [] → TypesSoFar start next types'
one_type_more {start} {t} {types} so p e = record {
  reads = λ to more x y z r. subst (λ w. FromTypes start to w x y z) (sym (ap (λ z. z ++ more) e ∙ append_assoc types (t ∷ []) more)) (so.reads to (t ∷ more) x y z (more_types p r));
  stops = λ to s. so.stops to (past_type p s);
}

pub types_end : {start at : List Lexeme} {types : List TypeDef} → TypesSoFar start at types → No (kind.Word KwType) at → PassesTypes start at types
types_end {start} {types} so n = record {
  reads = λ to x y z r. subst (λ w. FromTypes start to w x y z) (append-nil types) (so.reads to [] x y z (no_types r));
  stops = λ to s. so.stops to (past_types n s);
}

pub record MeasuresSoFar (start at : List Lexeme) (measures : List MeasureDef) : Type 0 where
  pub reads : (to : List Lexeme) (more : List MeasureDef) (procs : List ProcDef) (names : List Name) → FromMeasures at to more procs names → FromMeasures start to (measures ++ more) procs names
  pub stops : (to : List Lexeme) → FromMeasuresStop at to → FromMeasuresStop start to

pub no_measures_yet : {start : List Lexeme} → MeasuresSoFar start start []
no_measures_yet = record { reads = λ to more x y p. p; stops = λ to s. s }

pub one_measure_more : {start at next : List Lexeme} {m : MeasureDef} {measures measures' : List MeasureDef} → MeasuresSoFar start at measures → IsMeasure at next m → measures' ≡ measures ++ m ∷ [] → MeasuresSoFar start next measures'
one_measure_more {start} {m} {measures} so p e = record {
  reads = λ to more x y r. subst (λ w. FromMeasures start to w x y) (sym (ap (λ z. z ++ more) e ∙ append_assoc measures (m ∷ []) more)) (so.reads to (m ∷ more) x y (more_measures p r));
  stops = λ to s. so.stops to (past_measure p s);
}

pub measures_end : {start at : List Lexeme} {measures : List MeasureDef} → MeasuresSoFar start at measures → No (kind.Word KwMeasure) at → PassesMeasures start at measures
measures_end {start} {measures} so n = record {
  reads = λ to x y r. subst (λ w. FromMeasures start to w x y) (append-nil measures) (so.reads to [] x y (no_measures r));
  stops = λ to s. so.stops to (past_measures n s);
}

pub record ProcsSoFar (start at : List Lexeme) (procs : List ProcDef) : Type 0 where
  pub reads : (to : List Lexeme) (more : List ProcDef) (names : List Name) → FromProcs at to more names → FromProcs start to (procs ++ more) names
  pub stops : (to : List Lexeme) → FromProcsStop at to → FromProcsStop start to

pub no_procs_yet : {start : List Lexeme} → ProcsSoFar start start []
no_procs_yet = record { reads = λ to more x p. p; stops = λ to s. s }

pub one_proc_more : {start at next : List Lexeme} {p : ProcDef} {procs procs' : List ProcDef} → ProcsSoFar start at procs → IsProc at next p → procs' ≡ procs ++ p ∷ [] → ProcsSoFar start next procs'
one_proc_more {start} {p} {procs} so q e = record {
  reads = λ to more x r. subst (λ w. FromProcs start to w x) (sym (ap (λ z. z ++ more) e ∙ append_assoc procs (p ∷ []) more)) (so.reads to (p ∷ more) x (more_procs q r));
  stops = λ to s. so.stops to (past_proc q s);
}

pub procs_end : {start at : List Lexeme} {procs : List ProcDef} → ProcsSoFar start at procs → No (kind.Word KwProcedure) at → PassesProcs start at procs
procs_end {start} {procs} so n = record {
  reads = λ to x r. subst (λ w. FromProcs start to w x) (append-nil procs) (so.reads to [] x (no_procs r));
  stops = λ to s. so.stops to (past_procs n s);
}

pub record AnalysesSoFar (start at : List Lexeme) (names : List Name) : Type 0 where
  pub reads : (to : List Lexeme) (more : List Name) → AreAnalyses at to more → AreAnalyses start to (names ++ more)
  pub stops : (to : List Lexeme) → AnalysesStop at to → AnalysesStop start to

pub no_analyses_yet : {start : List Lexeme} → AnalysesSoFar start start []
no_analyses_yet = record { reads = λ to more p. p; stops = λ to s. s }

pub one_analysis_more : {start at next : List Lexeme} {name : Name} {names names' : List Name} → AnalysesSoFar start at names → IsAnalyze at next name → (next ≡ [] → ⊥) → names' ≡ names ++ name ∷ [] → AnalysesSoFar start next names'
one_analysis_more {start} {name} {names} so p n e = record {
  reads = λ to more r. subst (AreAnalyses start to) (sym (ap (λ z. z ++ more) e ∙ append_assoc names (name ∷ []) more)) (so.reads to (name ∷ more) (more_analyses p r));
  stops = λ to s. so.stops to (past_analysis p n s);
}

pub analyses_end : {start at next : List Lexeme} {name : Name} {names names' : List Name} → AnalysesSoFar start at names → IsAnalyze at next name → next ≡ [] → names' ≡ names ++ name ∷ [] → AreAnalyses start [] names'
analyses_end {start} {at} {name} so p n e = subst (AreAnalyses start []) (sym e) (so.reads [] _ (last_analysis (subst (λ z. IsAnalyze at z name) n p)))

-- nothing is said of the universe
pub head_missed : {from mid to : List Lexeme} → Misses (kind.Word KwLabelled) from mid → Misses (kind.Word KwUnlabelled) mid to → IsHead from to Unlabelled
head_missed m n = nothing_said (n.0 ∙ m.0, m.1) (subst (No (kind.Word KwUnlabelled)) m.0 n.1)

pub head_past : {from mid next at : List Lexeme} → Misses (kind.Word KwLabelled) from mid → IsNext (kind.Word KwUnlabelled) mid next → Misses (kind.Mark Semicolon) next at → HeadStops from at
head_past m n k = past_unlabelled (next_past m n) k

pub head_unlabelled : {from mid next to : List Lexeme} → Misses (kind.Word KwLabelled) from mid → IsNext (kind.Word KwUnlabelled) mid next → IsNext (kind.Mark Semicolon) next to → IsHead from to Unlabelled
head_unlabelled m n k = unlabelled_said (next_past m n) k

pub reads_program : {from a b c d : List Lexeme} {u : Universe} {types : List TypeDef} {measures : List MeasureDef} {procs : List ProcDef} {names : List Name} → IsHead from a u → PassesTypes a b types → PassesMeasures b c measures → PassesProcs c d procs → AreAnalyses d [] names → IsProgram from [] (record { universe = u; types = types; measures = measures; procs = procs; analyses = names })
reads_program {d} {procs} {names} (labelled_said next next) t m p q = labelled (t.reads _ _ _ _ (m.reads _ _ _ (p.reads _ _ q)))
reads_program (unlabelled_said next next) t m p q = unlabelled (t.reads _ _ _ _ (m.reads _ _ _ (p.reads _ _ q)))
reads_program {a} {types} {measures} {procs} {names} (nothing_said n k) t m p q = unlabelled_unsaid (subst (λ z. FromTypes z [] types measures procs names) n.0 (t.reads _ _ _ _ (m.reads _ _ _ (p.reads _ _ q))))

pub ruleset program_steps = (in_head, past_head, labelled_said, past_labelled, head_missed, head_past, head_unlabelled, in_type, in_measure, in_proc, in_analysis, no_types_yet, one_type_more, types_end, no_measures_yet, one_measure_more, measures_end, no_procs_yet, one_proc_more, procs_end, no_analyses_yet, one_analysis_more, analyses_end, reads_program)
