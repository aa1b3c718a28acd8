-- The outcome by the core form of a source is that by the source as it is written, step by step.
use Rattle.std.proofs.Common.{◌≡◌, ◌⊎◌, ◌↔◌, ℕ, ◌<◌, ◌≤◌, List, [], ◌∷◌, length, refl, sym, subst, inl, inr, arith}
use Rattle.std.specs.Prelude.{⊤}
use Rattle.luo_num.specs.declared.TheConstants.{MAX}
use Rattle.luo_num.specs.declared.limits.TheConstants.{WALK_LIMIT}
use Rattle.luo_model.specs.declared.table.Entry.{Entry}
use Rattle.luo_model.specs.declared.table.Entry.TheVariants.{Count, Total}
use Rattle.luo_model.specs.declared.table.Fill.TheVariants.{All, Counts}
use Rattle.luo_model.specs.Founded.{IsFounded}
use Rattle.luo_model.specs.Program.{Program}
use Rattle.luo_engine.specs.Entries.{IsThere, Has, IsNumber, NoneOver}
use Rattle.luo_scan.specs.declared.token.Token.{Token}
use Rattle.luo_source.specs.Plain.Source.{Source}
use Rattle.luo_rules.specs.Checks.{IsSource, IsChecked}
use Rattle.luo_rules.specs.Counted.{limits_passed}
use Rattle.luo_rules.specs.Whole.{breaches, core, walk_count}
use Rattle.luo_meaning.specs.Laws.{IsOver}
use Rattle.luo_meaning.specs.Over.{HasOver}
use Rattle.luo_meaning.proofs.BrokenKept.{first_kept, nothing_kept}
use Rattle.luo_meaning.proofs.CheckedSource.{checked_program}
use Rattle.luo_meaning.proofs.OverKept.{over_kept}
use Rattle.luo_meaning.proofs.RowsKept.{clean_source, measures_none}
use Rattle.luo_meaning.proofs.WalksKept.{walks_kept}
use Rattle.luo_sample.specs.Number as of_number
use Rattle.luo_answer.specs.Answer.{Answer}
use Rattle.luo_answer.specs.Commands.Analyse.{report}
use Rattle.luo_answer.specs.Commands.Audit.{few, audited, audit_counted, audit_of}
use Rattle.luo_answer.specs.Commands.List.{type_of, list_of}
use Rattle.luo_answer.specs.Commands.Run.{procedure_of, run_on}
use Rattle.luo_answer.specs.Commands.Sample.{IsSummary, summary}
use Rattle.luo_answer.specs.Overflows.{OverflowRefusal}
use Rattle.luo_answer.specs.Report.{IsReport}
use Rattle.luo_answer.specs.Step.{Step, HasNone, ◌and_then◌}
use Rattle.luo_answer.specs.Steps.{founded, sized, list_sized, workers_of, tables}
use Rattle.luo_answer.specs.Told.{Told}
use Rattle.luo_answer.specs.Words.{Command, Analyse, Format, Run, Sample, asked_by, Listing, Audit}
use Rattle.luo_answer.proofs.SameSteps.{Match, same_rest, same_else, same_step, same_makes, same_both, same_first, same_ends}
use Rattle.luo_top.specs.AsWritten.Audit.{few_of, audited_of, audit_counted_of, audit_by, audit_source}
use Rattle.luo_top.specs.AsWritten.Outcome.{OutcomeAsWritten, steps_as_written}
use Rattle.luo_top.specs.AsWritten.Report.{IsReportOf}
use Rattle.luo_top.specs.AsWritten.List.{defined_type, list_by, list_source}
use Rattle.luo_top.specs.AsWritten.Run.{defined_procedure, run_by, run_source}
use Rattle.luo_top.specs.AsWritten.Sample.{sound_text, sound_sample, IsSummaryOf, summary_of, sample_source}
use Rattle.luo_top.specs.AsWritten.Steps.{RuleRefusalOf, WalksRefusalOf, SourceRefusal, sound, sound_source, OverflowOf, numbers, counts, report_of, analyse_source}
use Rattle.luo_top.specs.Commands.Analyse.{analyse}
use Rattle.luo_top.specs.Commands.Audit.{audit}
use Rattle.luo_top.specs.Commands.List.{list}
use Rattle.luo_top.specs.Commands.Run.{run}
use Rattle.luo_top.specs.Commands.Sample.{text_program, sampled, sample}
use Rattle.luo_top.specs.Outcome.{Outcome, steps_of}
use Rattle.luo_top.specs.Refusals.{LimitRefusal, RuleRefusal, WalksRefusal}
use Rattle.luo_top.specs.Steps.{text_of, tokens_of, source_of, core_of, CoreRefusal, file_program}
use Rattle.luo_top.proofs.AuditKept.{few_same, audited_same}
use Rattle.luo_top.proofs.ListKept.{counts_same, list_rest_same}
use Rattle.luo_top.proofs.OverflowKept.{overflow_kept}
use Rattle.luo_top.proofs.ReportKept.{report_kept}
use Rattle.luo_top.proofs.RunKept.{run_rest_same}
use Rattle.luo_top.proofs.SummaryKept.{summary_kept}

no_elements : {A : Type 0} (l : List A) → ((x : A) (rest : List A) → l ≡ x ∷ rest → ⊥) → l ≡ []
no_elements [] h = refl
no_elements (x ∷ l) h = absurd (h x l refl)

cases : (m n : ℕ) → (m ≤ n) ⊎ (n < m)
cases m n = grind arith

-- the program is that of the source
abbrev IsProgramOf : Program → Source → Type 0
IsProgramOf p source = IsSource source × IsChecked source p

walks_refused : (source : Source) → IsSource source → (a : Answer) → WalksRefusal source a ↔ WalksRefusalOf source a
walks_refused source is a = (
  λ h. ((nothing_kept source is).0 h.0.0, (walk_count (core source), (walks_kept source is h.0.0 (walk_count (core source))).0 refl, h.0.1), h.1),
  λ h. let none = (nothing_kept source is).1 h.0 in ((none, let same = (walks_kept source is none h.1.0).1 h.1.1 in subst (λ n. WALK_LIMIT < n) same h.1.2), h.2),
)

module _ (text : List ℕ) (tokens : List Token) (source : Source) (is : IsSource source) where
  rules_refused : (a : Answer) → RuleRefusal text tokens source a ↔ RuleRefusalOf text tokens source a
  rules_refused a = (λ h. (h.0, (first_kept source is h.0).0 h.1, h.2), λ h. (h.0, (first_kept source is h.0).1 h.1, h.2))

  core_refused : (a : Answer) → CoreRefusal text tokens source a ↔ SourceRefusal text tokens source a
  core_refused = same_rest (LimitRefusal source) _ _ (same_else (RuleRefusal text tokens source) (RuleRefusalOf text tokens source) _ _ rules_refused (walks_refused source is))

  -- a source without refusal has a program
  checked : HasNone (CoreRefusal text tokens source) → IsChecked source (core source)
  checked none = (limits, (rules, refl), few (cases (walk_count (core source)) WALK_LIMIT))
    where
      no_limit : (a : Answer) → LimitRefusal source a → ⊥
      no_limit a l = none a (inl l)

      no_rule : (a : Answer) → RuleRefusal text tokens source a → ⊥
      no_rule a r = none a (inr (no_limit, inl r))

      limits : limits_passed source ≡ []
      limits = no_elements (limits_passed source) (λ which rest e. no_limit _ (which, (rest, e), refl))

      rules : breaches source ≡ []
      rules = no_elements (breaches source) (λ b rest e. no_rule _ (b, (rest, e), refl))

      few : ((walk_count (core source) ≤ WALK_LIMIT) ⊎ (WALK_LIMIT < walk_count (core source))) → walk_count (core source) ≤ WALK_LIMIT
      few (inl l) = l
      few (inr m) = absurd (none _ (inr (no_limit, inr (no_rule, ((rules, m), refl)))))

  core_same : Match IsProgramOf (core_of text tokens source) (sound text tokens source)
  core_same = same_makes IsProgramOf _ _ _ _ core_refused
      (λ none p h. (source, refl, (is, subst (IsChecked source) (sym h.1) (checked none))))
      (λ none s e. (core source, ((checked none).1.0, refl), subst (IsProgramOf (core source)) (sym e) (is, checked none)))

program_same : (file : List ℕ) (told : Told) → Match IsProgramOf (file_program file told) (sound_source file told)
program_same file told =
    same_first IsProgramOf (text_of file told) _ _ (λ text r. same_first IsProgramOf (tokens_of text) _ _ (λ tokens t. same_first IsProgramOf (source_of text tokens) _ _ (λ source d.
    core_same text tokens source (record { text = text; tokens = tokens; read = d.1.0; scanned = t.1; derived = d.1.1; shown = d.1.2 }))))

text_same : (text : List ℕ) → Match IsProgramOf (text_program text) (sound_text text)
text_same text =
    same_first IsProgramOf (tokens_of text) _ _ (λ tokens t. same_first IsProgramOf (source_of text tokens) _ _ (λ source d.
    core_same text tokens source (record { text = text; tokens = tokens; read = d.1.0; scanned = t.1; derived = d.1.1; shown = d.1.2 })))

-- a source and its program, from there on
module _ (source : Source) (is : IsSource source) (is_checked : IsChecked source (core source)) (n : ℕ) where
  over_same : IsOver (core source) MAX n ↔ HasOver source MAX n
  over_same = over_kept source is is_checked.1.0 (checked_program source (core source) is is_checked) MAX n

  is_over : (entry : Entry) (m v : ℕ) → m ≤ n → MAX < v → IsThere (core source) entry → IsNumber (core source) entry m v → IsOver (core source) MAX n
  is_over (Count x) m v l over there number = (m, v, l, over, inl (x, there, number))
  is_over (Total i) m v l over there number = (m, v, l, over, inr (i, there, number))

  has : (entry : Entry) → Has All entry
  has (Count x) = tt
  has (Total i) = refl

  none_over : ((m : ℕ) → m ≤ n → NoneOver (core source) All m) → IsOver (core source) MAX n → ⊥
  none_over none (m, v, l, over, inl (x, there, number)) = absurd (omega (arith, over, none m l (Count x) v there tt number))
  none_over none (m, v, l, over, inr (i, there, number)) = absurd (omega (arith, over, none m l (Total i) v there refl number))

  each_below : (HasOver source MAX n → ⊥) → (m : ℕ) → m ≤ n → NoneOver (core source) All m
  each_below none m l entry v there had number = below (cases v MAX)
    where
      below : ((v ≤ MAX) ⊎ (MAX < v)) → v ≤ MAX
      below (inl k) = k
      below (inr over) = absurd (none (over_same.0 (is_over entry m v l over there number)))

  overflow_same : IsFounded (core source) → (a : Answer) → OverflowRefusal (core source) All n a ↔ OverflowOf source n a
  overflow_same founded a = overflow_kept source is is_checked founded All n a

  tables_same : IsFounded (core source) → Match (λ _ _. ⊤) (tables All (core source) n) (numbers source n)
  tables_same founded = same_makes (λ _ _. ⊤) _ _ _ _ (overflow_same founded) (λ none _ h. (tt, (λ o. none_over h (over_same.1 o)), tt)) (λ none _ h. (tt, each_below h, tt))

  report_same : Match (λ x y. x ≡ y) (report (core source) n) (report_of source n)
  report_same = same_makes (λ x y. x ≡ y) _ _ (IsReport (core source) n) (IsReportOf source n) (λ a. (λ h. h, λ h. h)) (λ none x h. (x, (kept x).0 h, refl)) (λ none y h. (y, (kept y).1 h, refl))
    where
      kept : (bytes : List ℕ) → IsReport (core source) n bytes ↔ IsReportOf source n bytes
      kept = report_kept source (clean_source source is is_checked.1.0) (measures_none source is_checked.1.0) (checked_program source (core source) is is_checked) n

  summary_same : (number : ℕ) → Match (λ x y. x ≡ y) (summary number (length (of_number.Sample number)) (core source) n) (summary_of number source n)
  summary_same number = same_makes (λ x y. x ≡ y) _ _ (IsSummary number (length (of_number.Sample number)) (core source) n) (IsSummaryOf number source n) (λ a. (λ h. h, λ h. h)) (λ none x h. (x, (kept x).0 h, refl)) (λ none y h. (y, (kept y).1 h, refl))
    where
      kept : (bytes : List ℕ) → IsSummary number (length (of_number.Sample number)) (core source) n bytes ↔ IsSummaryOf number source n bytes
      kept = summary_kept source (clean_source source is is_checked.1.0) (measures_none source is_checked.1.0) (checked_program source (core source) is is_checked) n number

analyse_same : (file : List ℕ) (n : ℕ) (told : Told) → Match (λ x y. x ≡ y) (analyse file n told) (analyse_source file n told)
analyse_same file n told =
    same_both IsProgramOf (λ x y. x ≡ y) (file_program file told) (sound_source file told) _ _ (program_same file told)
    (λ p source is. subst (λ q. Match (λ x y. x ≡ y) (from q) (from_source source)) (sym is.1.1.1) (rest source is.0 (subst (IsChecked source) is.1.1.1 is.1)))
  where
    from : Program → Step (List ℕ)
    from p = founded p and_then λ _. sized n and_then λ size. tables All p size and_then λ _. report p size

    from_source : Source → Step (List ℕ)
    from_source source = founded (core source) and_then λ _. sized n and_then λ size. numbers source size and_then λ _. report_of source size

    rest : (source : Source) → IsSource source → IsChecked source (core source) → Match (λ x y. x ≡ y) (from (core source)) (from_source source)
    rest source is c =
        same_first (λ x y. x ≡ y) (founded (core source)) _ _ (λ _ f. same_first (λ x y. x ≡ y) (sized n) _ _ (λ size _.
        same_both (λ _ _. ⊤) (λ x y. x ≡ y) (tables All (core source) size) (numbers source size) _ _ (tables_same source is c size f.1) (λ _ _ _. report_same source is c size)))

run_same : (file procedure structure : List ℕ) (told : Told) → Match (λ x y. x ≡ y) (run file procedure structure told) (run_source file procedure structure told)
run_same file procedure structure told =
    same_both IsProgramOf (λ x y. x ≡ y) (file_program file told) (sound_source file told) _ _ (program_same file told)
    (λ p source is. subst (λ q. Match (λ x y. x ≡ y) (from q) (from_source source)) (sym is.1.1.1) (rest source is.0 (subst (IsChecked source) is.1.1.1 is.1)))
  where
    from : Program → Step (List ℕ)
    from p = founded p and_then λ _. procedure_of p procedure and_then run_on p structure

    from_source : Source → Step (List ℕ)
    from_source source = founded (core source) and_then λ _. defined_procedure source procedure and_then run_by source structure

    rest : (source : Source) → IsSource source → IsChecked source (core source) → Match (λ x y. x ≡ y) (from (core source)) (from_source source)
    rest source is c = same_first (λ x y. x ≡ y) (founded (core source)) _ _ (λ _ _. run_rest_same source is c.1.0 (checked_program source (core source) is c) procedure structure)

sample_same : (number n : ℕ) → Match (λ x y. x ≡ y) (sample number n) (sample_source number n)
sample_same number n =
    same_both IsProgramOf (λ x y. x ≡ y) (sampled number) (sound_sample number) _ _ (text_same _)
    (λ p source is. subst (λ q. Match (λ x y. x ≡ y) (from q) (from_source source)) (sym is.1.1.1) (rest source is.0 (subst (IsChecked source) is.1.1.1 is.1)))
  where
    from : Program → Step (List ℕ)
    from p = founded p and_then λ _. tables All p n and_then λ _. summary number (length (of_number.Sample number)) p n

    from_source : Source → Step (List ℕ)
    from_source source = founded (core source) and_then λ _. numbers source n and_then λ _. summary_of number source n

    rest : (source : Source) → IsSource source → IsChecked source (core source) → Match (λ x y. x ≡ y) (from (core source)) (from_source source)
    rest source is c =
        same_first (λ x y. x ≡ y) (founded (core source)) _ _ (λ _ f.
        same_both (λ _ _. ⊤) (λ x y. x ≡ y) (tables All (core source) n) (numbers source n) _ _ (tables_same source is c n f.1) (λ _ _ _. summary_same source is c n number))

list_same : (file name : List ℕ) (n start k : ℕ) (told : Told) → Match (λ x y. x ≡ y) (list file name n start k told) (list_source file name n start k told)
list_same file name n start k told =
    same_both IsProgramOf (λ x y. x ≡ y) (file_program file told) (sound_source file told) _ _ (program_same file told)
    (λ p source is. subst (λ q. Match (λ x y. x ≡ y) (from q) (from_source source)) (sym is.1.1.1) (rest source is.0 (subst (IsChecked source) is.1.1.1 is.1)))
  where
    from : Program → Step (List ℕ)
    from p = founded p and_then λ _. type_of p name and_then list_of p n start k

    from_source : Source → Step (List ℕ)
    from_source source = founded (core source) and_then λ _. defined_type source name and_then list_by source n start k

    rest : (source : Source) → IsSource source → IsChecked source (core source) → Match (λ x y. x ≡ y) (from (core source)) (from_source source)
    rest source is c = same_first (λ x y. x ≡ y) (founded (core source)) _ _ (λ _ f. list_rest_same source is c f.1 name n start k)

audit_same : (file : List ℕ) (n w : ℕ) (told : Told) → Match (λ x y. x ≡ y) (audit file n w told) (audit_source file n w told)
audit_same file n w told =
    same_both IsProgramOf (λ x y. x ≡ y) (file_program file told) (sound_source file told) _ _ (program_same file told)
    (λ p source is. subst (λ q. Match (λ x y. x ≡ y) (from q) (from_source source)) (sym is.1.1.1) (rest source is.0 (subst (IsChecked source) is.1.1.1 is.1)))
  where
    from : Program → Step (List ℕ)
    from p = founded p and_then λ _. audit_of p n w

    from_source : Source → Step (List ℕ)
    from_source source = founded (core source) and_then λ _. audit_by source n w

    counted_same : (source : Source) → IsSource source → IsChecked source (core source) → IsFounded (core source) → (size : ℕ)
        → Match (λ x y. x ≡ y) (audit_counted (core source) size) (audit_counted_of source size)
    counted_same source is c founded size =
        let q = checked_program source (core source) is c in
        same_both (λ _ _. ⊤) (λ x y. x ≡ y) (few (core source) size) (few_of source size) _ _ (few_same source is c.1.0 q founded size) (λ _ _ _.
        same_both (λ _ _. ⊤) (λ x y. x ≡ y) (audited (core source) size) (audited_of source size) _ _ (audited_same source is c.1.0 q founded size) (λ _ _ _. report_same source is c size))

    rest : (source : Source) → IsSource source → IsChecked source (core source) → Match (λ x y. x ≡ y) (from (core source)) (from_source source)
    rest source is c =
        same_first (λ x y. x ≡ y) (founded (core source)) _ _ (λ _ f. same_first (λ x y. x ≡ y) (list_sized n) _ _ (λ size _. same_first (λ x y. x ≡ y) (workers_of w) _ _ (λ _ _.
        same_both (λ _ _. ⊤) (λ x y. x ≡ y) (tables Counts (core source) size) (counts source size) _ _ (counts_same source is c f.1 size) (λ _ _ _. counted_same source is c f.1 size))))

steps_same : (command : Command) (told : Told) → Match (λ x y. x ≡ y) (steps_of command told) (steps_as_written command told)
steps_same (Analyse file n) told = analyse_same file n told
steps_same (Format file) told = same_step _
steps_same (Run file procedure structure) told = run_same file procedure structure told
steps_same (Sample number n) told = sample_same number n
steps_same (Listing file name n start k) told = list_same file name n start k told
steps_same (Audit file n w) told = audit_same file n w told

pub outcome_kept : (told : Told) (words : List (List ℕ)) (a : Answer) → Outcome told words a ↔ OutcomeAsWritten told words a
unfolding Outcome OutcomeAsWritten
outcome_kept told words = same_ends _ _ (same_first (λ x y. x ≡ y) (asked_by words) _ _ (λ command h. steps_same command told))
