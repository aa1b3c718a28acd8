-- A sample within its limits is taken: no step to its program, nor its being founded, is refused, and then only a number that is too large.
use Rattle.std.proofs.Common.{◌≡◌, ◌<◌, ◌≤◌, ◌^◌, ℕ, List, [], ◌∷◌, length, refl, sym, ◌∙◌, subst, inl, inr, arith, Option, Some}
use Rattle.luo_num.specs.declared.limits.TheConstants.{SIZE_LIMIT, SAMPLE_LIMIT}
use Rattle.luo_model.specs.Founded.{IsFounded}
use Rattle.luo_scan.specs.declared.token.Token.{Token}
use Rattle.luo_source.specs.declared.source.Source.{Source}
use Rattle.luo_source.specs.View.{plain_source}
use Rattle.luo_source.specs.Grammar.{Derives}
use Rattle.luo_syntax.specs.Viable.{IsShallow}
use Rattle.luo_scan.specs.Lexemes.{lexemes}
use Rattle.luo_syntax.proofs.SourceOrError.{never_both}
use Rattle.luo_rules.specs.Whole.{core}
use Rattle.luo_sample.specs.Laws.{IsGood}
use Rattle.luo_sample.specs.Number.{Sample}
use Rattle.luo_sample.proofs.Good.{each_is_good}
use Rattle.luo_model.specs.Program.{Program}
use Rattle.std.specs.Prelude.{Result}
use Rattle.luo_founded.proofs.OneAnswer.{founded_keeps}
use Rattle.luo_answer.specs.Answer.{Answer}
use Rattle.luo_answer.specs.Commands.Sample.{sample_of}
use Rattle.luo_answer.specs.Told.{Told}
use Rattle.luo_answer.specs.Words as words'
use Rattle.luo_answer.specs.Words.{Command, command_of, LimitOfSample, WordsRefusal}
use Rattle.luo_answer.specs.inner.Passes.{Passes, itself}
use Rattle.luo_answer.specs.declared.refusal.Refusal.{Refusal}
use Rattle.luo_answer.specs.Step.{HasNone, ◌and_then◌}
use Rattle.luo_answer.specs.Steps.{founded}
use Rattle.luo_top.specs.AsWritten.Outcome.{OutcomeAsWritten}
use Rattle.luo_top.specs.Commands.Sample.{sampled, sample, text_program}
use Rattle.luo_top.specs.Laws.{IsTaken}
use Rattle.luo_top.specs.Outcome.{Outcome, steps_of}
use Rattle.luo_top.specs.Refusals.{SyntaxRefusal}
use Rattle.luo_top.specs.Steps.{CoreRefusal}
use Rattle.luo_top.proofs.NoRefusal.{no_fault}
use Rattle.luo_top.proofs.OneOutcome.{text_program-sole}
use Rattle.luo_top.proofs.OutcomeKept.{outcome_kept}

head : {A : Type 0} (x : A) (xs : List A) → [] ≡ x ∷ xs → ⊥
head x xs e = cc

no_syntax : (text : List ℕ) (ts : List Token) (s : Source) → Derives text ts s → IsShallow (lexemes text ts) → HasNone (SyntaxRefusal text ts)
no_syntax text ts s d shallow a (e, other, x, same) = never_both text ts (s, d, shallow) (e, other, x)

no_core : (text : List ℕ) (g : IsGood text) (ts : List Token) → HasNone (CoreRefusal text ts (plain_source g.source))
no_core text g ts a (inl (which, (rest, e), same)) = head which rest (sym g.within ∙ e)
no_core text g ts a (inr (_, inl (b, (rest, e), same))) = head b rest (sym g.unbroken ∙ e)
no_core text g ts a (inr (_, inr (_, ((clean, more), same)))) = absurd (omega (arith, g.walks, more))

-- the steps hand on the core form of the source
pub sampled_hands : (number : ℕ) (g : IsGood (Sample number)) → (sampled number).hands (core (plain_source g.source))
unfolding ◌and_then◌
sampled_hands number g = (
  g.tokens,
  (no_fault (Sample number) g.tokens g.scanned, g.scanned),
  (plain_source g.source, (no_syntax (Sample number) g.tokens g.source g.derived g.shallow, (g.source, g.derived, refl)), (no_core (Sample number) g g.tokens, (g.unbroken, refl))),
)

no_refusal : (number : ℕ) → number < 2 ^ 64 → (a : Answer) → (sampled number and_then founded).refuses a → ⊥
unfolding ◌and_then◌
no_refusal number l a (inl r) = let g = each_is_good number l in (text_program-sole (Sample number)).apart a (core (plain_source g.source)) r (sampled_hands number g)
no_refusal number l a (inr (p, h, (e, b, same))) =
    let g = each_is_good number l in
    let one : p ≡ core (plain_source g.source) = (text_program-sole (Sample number)).hands p (core (plain_source g.source)) h (sampled_hands number g) in
    founded_keeps p (subst IsFounded (sym one) g.founded) e b

steps_taken : (number n : ℕ) → number < 2 ^ 64 → (a : Answer) → (sample number n).refuses a → IsTaken a
unfolding ◌and_then◌
steps_taken number n l a (inl r) = absurd (no_refusal number l a (inl r))
steps_taken number n l a (inr (p, h, inl r)) = absurd (no_refusal number l a (inr (p, h, r)))
steps_taken number n l a (inr (p, h, inr (_, k, inl (entry, m, first, e)))) = inr (_, e)
steps_taken number n l a (inr (p, h, inr (_, k, inr (_, t, r)))) = absurd r

within : (number n : ℕ) (a : Answer) → number ≤ SAMPLE_LIMIT → n ≤ SIZE_LIMIT → LimitOfSample number n a → ⊥
within number n a l m (inl (over, e)) = omega (arith, l, over)
within number n a l m (inr (none, (over, e))) = omega (arith, m, over)

same_command : (c d : Command) → Some c ≡ Some d → c ≡ d
same_command c d e = cc

outcome_taken : (told : Told) (words : List (List ℕ)) (number n : ℕ) → command_of words ≡ Some (words'.Sample number n) → number ≤ SAMPLE_LIMIT → n ≤ SIZE_LIMIT
    → (a : Answer) → Outcome told words a → IsTaken a
unfolding Outcome ◌and_then◌
outcome_taken told words number n e l m a (inl (inl w)) = absurd (within number n a l m (subst (λ (o : Option Command). WordsRefusal o a) e w))
outcome_taken told words number n e l m a (inl (inr (c, (none, form), r))) =
    steps_taken number n (omega (arith, l)) a (subst (λ (d : Command). (steps_of d told).refuses a) (same_command c (words'.Sample number n) (sym form ∙ e)) r)
outcome_taken told words number n e l m a (inr (bytes, h, same)) = inl (bytes, same)

pub samples_taken : (told : Told) (words : List (List ℕ)) (number n : ℕ) → command_of words ≡ Some (words'.Sample number n) → number ≤ SAMPLE_LIMIT → n ≤ SIZE_LIMIT
    → (a : Answer) → OutcomeAsWritten told words a → IsTaken a
samples_taken told words number n e l m a h = outcome_taken told words number n e l m a ((outcome_kept told words a).1 h)

-- the steps to the program of a text, where it is that of a sample
pub of_text : {Z : Type 0} {view : Z → Program} {r : Result Z Refusal} (number : ℕ) {text : List ℕ} → text ≡ Sample number → Passes view (text_program text) r → Passes view (sampled number) r
of_text {view = view} {r = r} number e h = subst (λ t. Passes view (text_program t) r) e h

-- and the steps from it on, with the length of that text
pub of_length : {r : Result (List ℕ) Refusal} (number bytes n : ℕ) (p : Program) → bytes ≡ length (Sample number) → Passes itself (sample_of number bytes n p) r
    → Passes itself (sample_of number (length (Sample number)) n p) r
of_length {r = r} number bytes n p e h = subst (λ k. Passes itself (sample_of number k n p) r) e h
