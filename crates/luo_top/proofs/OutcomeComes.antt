-- There is an outcome: it can't be that no answer holds.
use Rattle.std.proofs.Common.{◌≡◌, ℕ, List, [], ◌∷◌, refl, sym, ◌∙◌, inl, inr}
use Rattle.std.specs.Prelude.{◌⊎◌}
use Rattle.luo_model.specs.Program.{Program}
use Rattle.luo_scan.specs.declared.token.Token.{Token}
use Rattle.luo_scan.specs.Tokens.{Tokens, LexicalFault, FirstFault}
use Rattle.luo_scan.proofs.Decide.{tokens_or}
use Rattle.luo_source.specs.Plain.Source.{Source}
use Rattle.luo_source.specs.View.{plain_source}
use Rattle.luo_syntax.proofs.SourceOrError.{source_or_error}
use Rattle.luo_rules.specs.declared.rule.Breach.{Breach}
use Rattle.luo_rules.specs.declared.error.CountLimit.{CountLimit}
use Rattle.luo_rules.specs.Counted.{limits_passed}
use Rattle.luo_rules.specs.Whole.{IsCore, breaches, core}
use Rattle.luo_answer.specs.Answer.{Answer}
use Rattle.luo_answer.specs.Step.{HasNone}
use Rattle.luo_answer.specs.Told.{Told}
use Rattle.luo_answer.specs.Words.{Command, Analyse, Format, Run, Sample, Listing, Audit}
use Rattle.luo_answer.proofs.SomeAnswer.{GoesOn, or_makes-goes_on, and_then-goes_on, ends-comes, reading-goes_on, analyse-goes_on, run-goes_on, sample-goes_on, list-goes_on, audit-goes_on, asked-goes_on}
use Rattle.luo_top.specs.Commands.Sample.{text_program}
use Rattle.luo_top.specs.Outcome.{Outcome, steps_of}
use Rattle.luo_top.specs.Refusals.{LimitRefusal}
use Rattle.luo_top.specs.Steps.{tokens_of, source_of, core_of, CoreRefusal, file_source, file_program}
use Rattle.luo_top.proofs.ProgramFacts.{program_is, text_program_is}

tokens-goes_on : (text : List ℕ) → GoesOn (tokens_of text)
tokens-goes_on text = or_makes-goes_on _ _ (λ none nothing. by (tokens_or text) none nothing)
  where
    by : ((ts : List Token) × Tokens text ts) ⊎ ((fault : LexicalFault) × (place : ℕ) × FirstFault text fault place) → HasNone (tokens_of text).refuses → ((ts : List Token) → Tokens text ts → ⊥) → ⊥
    by (inl (ts, t)) none nothing = nothing ts t
    by (inr (fault, place, f)) none nothing = none _ (fault, place, f, refl)

source-goes_on : (text : List ℕ) (ts : List Token) → Tokens text ts → GoesOn (source_of text ts)
source-goes_on text ts t = or_makes-goes_on _ _ (λ none nothing. source_or_error text ts t (λ (s, d, _). nothing (plain_source s) (s, d, refl)) (λ (e, other, x). none _ (e, other, x, refl)))

core-goes_on : (text : List ℕ) (ts : List Token) (s : Source) → GoesOn (core_of text ts s)
core-goes_on text ts s = or_makes-goes_on _ _ (λ none nothing. by (limits_passed s) (breaches s) refl refl none nothing)
  where
    head : {A : Type 0} (x : A) (xs : List A) → [] ≡ x ∷ xs → ⊥
    head x xs e = cc

    no_limit : limits_passed s ≡ [] → (a : Answer) → LimitRefusal s a → ⊥
    no_limit e a (which, p, q) = head which p.0 (sym e ∙ p.1)

    by : (ws : List CountLimit) (bs : List Breach) → limits_passed s ≡ ws → breaches s ≡ bs → HasNone (CoreRefusal text ts s) → ((p : Program) → IsCore s p → ⊥) → ⊥
    by (w ∷ ws) bs e f none nothing = none _ (inl (w, (ws, e), refl))
    by [] (b ∷ bs) e f none nothing = none _ (inr (no_limit e, inl (b, (bs, f), refl)))
    by [] [] e f none nothing = nothing (core s) (f, refl)

source_file-goes_on : (file : List ℕ) (told : Told) → GoesOn (file_source file told)
source_file-goes_on file told = and_then-goes_on _ _ (reading-goes_on _ _ file told) (λ text _. and_then-goes_on _ _ (tokens-goes_on text) (λ ts t. source-goes_on text ts t.1))

program-goes_on : (file : List ℕ) (told : Told) → GoesOn (file_program file told)
program-goes_on file told =
    and_then-goes_on _ _ (reading-goes_on _ _ file told) (λ text _. and_then-goes_on _ _ (tokens-goes_on text) (λ ts t. and_then-goes_on _ _ (source-goes_on text ts t.1) (λ s _. core-goes_on text ts s)))

text_program-goes_on : (text : List ℕ) → GoesOn (text_program text)
text_program-goes_on text = and_then-goes_on _ _ (tokens-goes_on text) (λ ts t. and_then-goes_on _ _ (source-goes_on text ts t.1) (λ s _. core-goes_on text ts s))

steps-go_on : (c : Command) (told : Told) → GoesOn (steps_of c told)
steps-go_on (Analyse file n) told = and_then-goes_on _ _ (program-goes_on file told) (λ p h. analyse-goes_on n p (program_is file told p h))
steps-go_on (Format file) told = and_then-goes_on _ _ (source_file-goes_on file told) (λ s _. or_makes-goes_on _ _ (λ none nothing. nothing _ refl))
steps-go_on (Run file procedure structure) told = and_then-goes_on _ _ (program-goes_on file told) (λ p h. run-goes_on procedure structure p (program_is file told p h))
steps-go_on (Sample number n) told = and_then-goes_on _ _ (text_program-goes_on _) (λ p h. sample-goes_on number _ n p (text_program_is _ p h))
steps-go_on (Listing file name n start k) told = and_then-goes_on _ _ (program-goes_on file told) (λ p h. list-goes_on name n start k p (program_is file told p h))
steps-go_on (Audit file n w) told = and_then-goes_on _ _ (program-goes_on file told) (λ p h. audit-goes_on n w p (program_is file told p h))

-- it can't be that there is no outcome
pub outcome_comes : (told : Told) (words : List (List ℕ)) → HasNone (Outcome told words) → ⊥
unfolding Outcome
outcome_comes told words = ends-comes _ (and_then-goes_on _ _ (asked-goes_on words) (λ c _. steps-go_on c told))
