-- The main theorem from the answer to the words, and from what the sinks took.
use Rattle.std.proofs.Common.{◌≡◌, ℕ, List, sym, ◌∙◌, subst, refl, inl, inr, Option, None, Some, Result, Ok, Err, OnOk, OnErr}
use Rattle.std.specs.Prelude.{codes, ◌⊎◌, ◌↔◌}
use Rattle.std.specs.Io.KnownBytes.{Appends}
use Rattle.luo_outside.specs.Bytes.{TookPrefix}
use Rattle.luo_outside.specs.Causes.{Rose}
use Rattle.luo_answer.specs.declared.refusal.Refusal.{Refusal}
use Rattle.luo_answer.specs.declared.refusal.Refusal.TheVariants as why
use Rattle.luo_answer.specs.declared.status.Status.{Status}
use Rattle.luo_answer.specs.declared.status.Status.TheVariants.{Done, Usage, Refused, Limit, Overflow, ReadFault, WriteFault, NoMemory}
use Rattle.luo_answer.specs.Answer as answer
use Rattle.luo_answer.specs.Lines.{line, usage_line}
use Rattle.luo_answer.specs.Step.{◌and_then◌, HasNone}
use Rattle.luo_answer.specs.Told.{Told, without}
use Rattle.luo_answer.specs.Words.{Command, command_of, files_of, HasNoForm, LimitOfWords, WordsRefusal}
use Rattle.luo_answer.specs.inner.Passes.{Seen, StopsOver, Tells, bytes_of, status_of, line_of}
use Rattle.luo_answer.specs.inner.Requests.{RefusedByWords}
use Rattle.luo_answer.proofs.OneAnswer.{words-single}
use Rattle.luo_top.specs.AsWritten.Outcome.{OutcomeAsWritten}
use Rattle.luo_top.specs.Headline.{Run, Sinking, IsRight, Answers, IsUntouched, Took, TookPart, TookLine, FileFailed, IsRefusal, WordsRefuse}
use Rattle.luo_top.specs.Outcome.{Outcome, steps_of}
use Rattle.luo_top.specs.inner.Answered.{IsAnswer}
use Rattle.luo_top.proofs.OutcomeKept.{outcome_kept}
use Rattle.luo_top.proofs.WrittenOutcome.{written_single}

-- a sink took a line, or its count rose and it took a prefix of it
pub took : {S T W : Type 0} (sink : Sinking S) (bytes : List ℕ) (r : Result T W) → OnOk r (Appends sink.taken_old sink.taken_new bytes) → OnErr r (TookPrefix sink.taken_old sink.taken_new bytes)
    → OnErr r (Rose sink.faults_old sink.faults_new) → TookLine sink bytes
took sink bytes (Ok x) ok prefix rose = inl ok
took sink bytes (Err e) ok prefix rose = inr (rose, prefix)

abbrev IsDone : Status → Type 0
IsDone Done = Unit {0}
IsDone other = ⊥

abbrev IsReadFault : Status → Type 0
IsReadFault ReadFault = Unit {0}
IsReadFault other = ⊥

abbrev IsWriteFault : Status → Type 0
IsWriteFault WriteFault = Unit {0}
IsWriteFault other = ⊥

abbrev IsNoMemory : Status → Type 0
IsNoMemory NoMemory = Unit {0}
IsNoMemory other = ⊥

two_forms : {c : Command} (o : Option Command) → o ≡ Some c → o ≡ None → ⊥
two_forms o e d = apart (sym e ∙ d)
  where
    apart : {c : Command} → Some c ≡ None → ⊥
    apart e = cc

no_output : (s : Status) (a b : List ℕ) → answer.Output a ≡ answer.Refusal s b → ⊥
no_output s a b e = cc

untold_output : (a : List ℕ) → answer.Untold ≡ answer.Output a → ⊥
untold_output a e = cc

untold_refusal : (s : Status) (a : List ℕ) → answer.Untold ≡ answer.Refusal s a → ⊥
untold_refusal s a e = cc

same_status : (s t : Status) (a b : List ℕ) → answer.Refusal s a ≡ answer.Refusal t b → s ≡ t
same_status s t a b e = cc

same_line : (s t : Status) (a b : List ℕ) → answer.Refusal s a ≡ answer.Refusal t b → a ≡ b
same_line s t a b e = cc

-- the words of a command refuse nothing by themselves, and the outcome is that of its steps
module _ (told : Told) (words : List (List ℕ)) (c : Command) (form : command_of words ≡ Some c) (none : HasNone (LimitOfWords c)) where
  nothing : HasNone (WordsRefuse words)
  nothing a w = none a (subst (λ o. WordsRefusal o a) form w)

  refused_by_steps : (a : answer.Answer) → (steps_of c told).refuses a → Outcome told words a
  unfolding Outcome ◌and_then◌
  refused_by_steps a r = inl (inr (c, (nothing, form), r))

  put_out_by_steps : (bytes : List ℕ) → (steps_of c told).hands bytes → Outcome told words (answer.Output bytes)
  unfolding Outcome ◌and_then◌
  put_out_by_steps bytes h = inr (bytes, (c, (nothing, form), h), refl)

  refusal_of_steps : (a : answer.Answer) → (steps_of c told).refuses a → OutcomeAsWritten told words a
  refusal_of_steps a r = (outcome_kept told words a).0 (refused_by_steps a r)

  output_of_steps : (bytes : List ℕ) → (steps_of c told).hands bytes → OutcomeAsWritten told words (answer.Output bytes)
  output_of_steps bytes h = (outcome_kept told words (answer.Output bytes)).0 (put_out_by_steps bytes h)

refusal_of_words : (told : Told) (words : List (List ℕ)) (a : answer.Answer) → WordsRefuse words a → OutcomeAsWritten told words a
unfolding OutcomeAsWritten ◌and_then◌
refusal_of_words told words a w = inl (inl w)

module _ {O E : Type 0} (run : Run O E) (told_new : Told) where
  abbrev seen_by : Seen
  seen_by = record { told = run.told; told_new = told_new; old = run.faults_old; new = run.faults_new }

  -- a run whose outcome is an output
  module _ (bytes : List ℕ) (answered : IsAnswer run.words seen_by (Ok bytes)) where
    in_form : (c : Command) × (command_of run.words ≡ Some c) × HasNone (LimitOfWords c) × Answers run (answer.Output bytes)
    in_form = by answered
      where
        no_error : (e : Refusal) → ◌≡◌ {A = Result (List ℕ) Refusal} (Ok bytes) (Err e) → ⊥
        no_error e h = cc

        by : IsAnswer run.words seen_by (Ok bytes) → (c : Command) × (command_of run.words ≡ Some c) × HasNone (LimitOfWords c) × Answers run (answer.Output bytes)
        by (inl (e, same, w)) = absurd (no_error e same)
        by (inr (c, form, none, p)) = (c, form, none, of p.answers)
          where
            of : ((steps_of c run.told).refuses answer.Untold ⊎ (steps_of c run.told).hands bytes) → Answers run (answer.Output bytes)
            of (inl u) = inr (refusal_of_steps run.told run.words c form none answer.Untold u)
            of (inr h) = inl (output_of_steps run.told run.words c form none bytes h)

    no_usage : HasNoForm run.words → ⊥
    no_usage n = two_forms (command_of run.words) in_form.1 n

    no_words : HasNone (WordsRefuse run.words)
    no_words = nothing run.told run.words in_form.0 in_form.1 in_form.2

    no_refusal : (s : Status) (other : List ℕ) → OutcomeAsWritten run.told run.words (answer.Refusal s other) → ⊥
    no_refusal s other r = by in_form.3
      where
        by : Answers run (answer.Output bytes) → ⊥
        by (inl o) = no_output s bytes other (written_single run.told run.words _ _ o r)
        by (inr u) = untold_refusal s other (written_single run.told run.words _ _ u r)

    pub done : IsUntouched run.err → Took run.out bytes → IsRight run Done
    done same whole = record {
      done = λ e. (same, bytes, in_form.3, whole);
      refused = λ r. absurd r;
      read_fault = λ e. absurd (subst IsDone e tt);
      write_fault = λ e. absurd (subst IsDone e tt);
      no_memory = λ e. absurd (subst IsDone e tt);
      usage = (λ e. absurd (subst IsDone e tt), λ n. absurd (no_usage n));
      words_alone = λ s b w. absurd (no_words (answer.Refusal s b) w);
      output_comes = λ b o _ _. inl refl;
      refusal_comes = λ s b r _. absurd (no_refusal s b r);
    }

    pub cut_short : TookPart run.out bytes → TookLine run.err (line (codes "write fault")) → IsRight run WriteFault
    cut_short part sent = record {
      done = λ e. absurd (subst IsWriteFault e tt);
      refused = λ r. absurd r;
      read_fault = λ e. absurd (subst IsWriteFault e tt);
      write_fault = λ e. ((bytes, in_form.3, part), sent);
      no_memory = λ e. absurd (subst IsWriteFault e tt);
      usage = (λ e. absurd (subst IsWriteFault e tt), λ n. absurd (no_usage n));
      words_alone = λ s b w. absurd (no_words (answer.Refusal s b) w);
      output_comes = λ b o _ sink. absurd (sink part.0);
      refusal_comes = λ s b r _. absurd (no_refusal s b r);
    }

  -- a run that ends with a refusal
  module _ (same : IsUntouched run.out) where
    refusal : (t : Status) (bytes : List ℕ) → IsRefusal t → Answers run (answer.Refusal t bytes) → ((t ≡ Usage) ↔ HasNoForm run.words)
        → ((s : Status) (b : List ℕ) → WordsRefuse run.words (answer.Refusal s b) → answer.Refusal s b ≡ answer.Refusal t bytes) → TookLine run.err bytes → IsRight run t
    refusal t bytes is a usage alone sent = record {
      done = λ e. absurd (subst IsRefusal e is);
      refused = λ r. (same, bytes, a, sent);
      read_fault = λ e. absurd (subst IsRefusal e is);
      write_fault = λ e. absurd (subst IsRefusal e is);
      no_memory = λ e. absurd (subst IsRefusal e is);
      usage = usage;
      words_alone = λ s b w. (sym (same_status s t b bytes (alone s b w)), subst (TookLine run.err) (sym (same_line s t b bytes (alone s b w))) sent);
      output_comes = λ b o _ _. absurd (other_output b o a);
      refusal_comes = λ s b r _. inl (one s b r a);
    }
      where
        other_output : (b : List ℕ) → OutcomeAsWritten run.told run.words (answer.Output b) → Answers run (answer.Refusal t bytes) → ⊥
        other_output b o (inl r) = no_output t b bytes (written_single run.told run.words _ _ o r)
        other_output b o (inr u) = untold_output b (written_single run.told run.words _ _ u o)

        one : (s : Status) (b : List ℕ) → OutcomeAsWritten run.told run.words (answer.Refusal s b) → Answers run (answer.Refusal t bytes) → t ≡ s
        one s b r (inl q) = same_status t s bytes b (written_single run.told run.words _ _ q r)
        one s b r (inr u) = absurd (untold_refusal s b (written_single run.told run.words _ _ u r))

    -- by the words alone
    by_words : (t : Status) (bytes : List ℕ) → IsRefusal t → WordsRefuse run.words (answer.Refusal t bytes) → ((t ≡ Usage) ↔ HasNoForm run.words) → TookLine run.err bytes → IsRight run t
    by_words t bytes is w usage sent =
        refusal t bytes is (inl (refusal_of_words run.told run.words _ w)) usage (λ s b v. words-single (command_of run.words) _ _ v w) sent

    -- by the steps of a command
    module _ (c : Command) (form : command_of run.words ≡ Some c) (none : HasNone (LimitOfWords c)) where
      by_steps : (t : Status) (bytes : List ℕ) → IsRefusal t → (t ≡ Usage → ⊥) → Tells (steps_of c run.told) (answer.Refusal t bytes) → TookLine run.err bytes → IsRight run t
      by_steps t bytes is other tells sent =
          refusal t bytes is (of tells) (λ e. absurd (other e), λ n. absurd (two_forms (command_of run.words) form n))
          (λ s b w. absurd (nothing run.told run.words c form none (answer.Refusal s b) w)) sent
        where
          of : Tells (steps_of c run.told) (answer.Refusal t bytes) → Answers run (answer.Refusal t bytes)
          of (inl u) = inr (refusal_of_steps run.told run.words c form none _ u)
          of (inr r) = inl (refusal_of_steps run.told run.words c form none _ r)

      by_fault : FileFailed run → TookLine run.err (line (codes "read fault")) → IsRight run ReadFault
      by_fault failed sent = record {
        done = λ e. absurd (subst IsReadFault e tt);
        refused = λ r. absurd r;
        read_fault = λ e. (same, failed, sent);
        write_fault = λ e. absurd (subst IsReadFault e tt);
        no_memory = λ e. absurd (subst IsReadFault e tt);
        usage = (λ e. absurd (subst IsReadFault e tt), λ n. absurd (two_forms (command_of run.words) form n));
        words_alone = λ s b w. absurd (nothing run.told run.words c form none (answer.Refusal s b) w);
        output_comes = λ b o whole _. absurd (whole failed);
        refusal_comes = λ s b r whole. absurd (whole failed);
      }

      starving : TookLine run.err (line (codes "no memory")) → IsRight run NoMemory
      starving sent = record {
        done = λ e. absurd (subst IsNoMemory e tt);
        refused = λ r. absurd r;
        read_fault = λ e. absurd (subst IsNoMemory e tt);
        write_fault = λ e. absurd (subst IsNoMemory e tt);
        no_memory = λ e. (same, nothing run.told run.words c form none, sent);
        usage = (λ e. absurd (subst IsNoMemory e tt), λ n. absurd (two_forms (command_of run.words) form n));
        words_alone = λ s b w. absurd (nothing run.told run.words c form none (answer.Refusal s b) w);
        output_comes = λ b o _ _. inr refl;
        refusal_comes = λ s b r _. inr refl;
      }

      stopped : (e : Refusal) → StopsOver (files_of c) (steps_of c) seen_by e → TookLine run.err (line_of e) → IsRight run (status_of e)
      stopped why.Usage h sent = absurd h
      stopped (why.Refused l) h sent = by_steps Refused (bytes_of l) tt (λ e. cc) h sent
      stopped (why.Limit l) h sent = by_steps Limit (bytes_of l) tt (λ e. cc) h sent
      stopped (why.Overflow l) h sent = by_steps Overflow (bytes_of l) tt (λ e. cc) h sent
      stopped why.ReadFault (file, i, u, rose) sent =
          by_fault (c, form, file, i, refusal_of_steps (without file run.told) run.words c form none answer.Untold u, rose) sent
      stopped why.NoMemory h sent = starving sent

    worded : (e : Refusal) → RefusedByWords run.words e → TookLine run.err (line_of e) → IsRight run (status_of e)
    worded why.Usage none sent = by_words Usage usage_line tt (subst (λ o. WordsRefusal o (answer.Refusal Usage usage_line)) (sym none) refl) (λ _. none, λ _. refl) sent
    worded (why.Refused l) w sent = absurd w
    worded (why.Limit l) (c, form, w) sent =
        by_words Limit (bytes_of l) tt (subst (λ o. WordsRefusal o (answer.Refusal Limit (bytes_of l))) (sym form) w)
        (λ e. absurd (limit_usage e), λ n. absurd (two_forms (command_of run.words) form n)) sent
      where
        limit_usage : Limit ≡ Usage → ⊥
        limit_usage e = cc
    worded (why.Overflow l) w sent = absurd w
    worded why.ReadFault w sent = absurd w
    worded why.NoMemory w sent = absurd w

    same_refusal : (d e : Refusal) → ◌≡◌ {A = Result (List ℕ) Refusal} (Err d) (Err e) → d ≡ e
    same_refusal d e h = cc

    pub ended : (e : Refusal) → IsAnswer run.words seen_by (Err e) → TookLine run.err (line_of e) → IsRight run (status_of e)
    ended e (inl (d, same_error, w)) sent = worded e (subst (RefusedByWords run.words) (sym (same_refusal e d same_error)) w) sent
    ended e (inr (c, form, none, p)) sent = stopped c form none e p.answers sent
