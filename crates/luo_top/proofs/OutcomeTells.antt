-- Where the files of the words are told, so is the outcome; and an output is what the steps hand on.
use Rattle.std.proofs.Common.{◌≡◌, ℕ, List, inl, inr, refl, sym, ◌∙◌, subst, None, Some}
use Rattle.luo_finite.specs.Listing.{In}
use Rattle.luo_finite.proofs.Places.{some_same}
use Rattle.luo_scan.specs.declared.token.Token.{Token}
use Rattle.luo_scan.specs.Tokens.{bad_byte, long_name, large_number}
use Rattle.luo_syntax.specs.declared.error.SyntaxError.TheVariants.{Grammar, Depth, NoMemory}
use Rattle.luo_source.specs.Plain.Source.{Source}
use Rattle.luo_answer.specs.declared.status.Status.{Status}
use Rattle.luo_answer.specs.Answer.{Answer, Output, Refusal, Untold}
use Rattle.luo_answer.proofs.ToldAnswer.{tells_both, reading-tells, analyse-tells, run-tells, sample-tells, list-tells, audit-tells, words-tell}
use Rattle.luo_answer.specs.Step.{Step, ◌and_then◌}
use Rattle.luo_answer.specs.Told.{Told}
use Rattle.luo_answer.specs.Words.{Command, Analyse, Format, Run, Sample, command_of, files_of, Listing, Audit}
use Rattle.luo_top.specs.Commands.Sample.{text_program, sampled}
use Rattle.luo_top.specs.Laws.{FilesAreTold}
use Rattle.luo_top.specs.Outcome.{Outcome, steps_of}
use Rattle.luo_top.specs.Refusals.{LexicalRefusal, SyntaxRefusal}
use Rattle.luo_top.specs.Steps.{text_of, tokens_of, source_of, core_of, CoreRefusal, file_source, file_program}

untold : (s : Status) (bytes : List ℕ) → Untold ≡ Refusal s bytes → ⊥
untold s bytes e = cc

-- an answer that is no refusal is given by no step, but that a file isn't told
module _ (a : Answer) (no_refusal : (s : Status) (bytes : List ℕ) → a ≡ Refusal s bytes → ⊥) where
  both : {X Y : Type 0} (first : Step X) (second : X → Step Y) → (first.refuses a → ⊥) → ((x : X) → (second x).refuses a → ⊥) → (first and_then second).refuses a → ⊥
  both first second = tells_both a no_refusal first second

  tokens-tells : (text : List ℕ) → LexicalRefusal text a → ⊥
  tokens-tells text (bad_byte, at, p, e) = no_refusal _ _ e
  tokens-tells text (long_name, at, p, e) = no_refusal _ _ e
  tokens-tells text (large_number, at, p, e) = no_refusal _ _ e

  source-tells : (text : List ℕ) (ts : List Token) → SyntaxRefusal text ts a → ⊥
  source-tells text ts (Grammar k, n, p, e) = no_refusal _ _ e
  source-tells text ts (Depth k, n, p, e) = no_refusal _ _ e
  source-tells text ts (NoMemory, n, p, e) = no_refusal _ _ e

  core-tells : (text : List ℕ) (ts : List Token) (s : Source) → CoreRefusal text ts s a → ⊥
  core-tells text ts s (inl (w, p, e)) = no_refusal _ _ e
  core-tells text ts s (inr (n, inl (b, p, e))) = no_refusal _ _ e
  core-tells text ts s (inr (n, inr (m, (w, e)))) = no_refusal _ _ e

  source_file-tells : (file : List ℕ) (told : Told) → (told file ≡ None → a ≡ Untold → ⊥) → (file_source file told).refuses a → ⊥
  source_file-tells file told n =
      both (text_of file told) _ (reading-tells a no_refusal _ _ (told file) n) (λ text. both (tokens_of text) _ (tokens-tells text) (λ ts. source-tells text ts))

  program-tells : (file : List ℕ) (told : Told) → (told file ≡ None → a ≡ Untold → ⊥) → (file_program file told).refuses a → ⊥
  program-tells file told n =
      both (text_of file told) _ (reading-tells a no_refusal _ _ (told file) n) (λ text. both (tokens_of text) _ (tokens-tells text) (λ ts. both (source_of text ts) (core_of text ts) (source-tells text ts) (core-tells text ts)))

  text_program-tells : (text : List ℕ) → (text_program text).refuses a → ⊥
  text_program-tells text = both (tokens_of text) _ (tokens-tells text) (λ ts. both (source_of text ts) (core_of text ts) (source-tells text ts) (core-tells text ts))

  pub steps-tell : (c : Command) (told : Told) → ((file : List ℕ) → In file (files_of c) → told file ≡ None → a ≡ Untold → ⊥) → (steps_of c told).refuses a → ⊥
  steps-tell (Analyse file n) told there = both (file_program file told) _ (program-tells file told (there file (inl refl))) (analyse-tells a no_refusal n)
  steps-tell (Format file) told there = both (file_source file told) _ (source_file-tells file told (there file (inl refl))) (λ s r. r)
  steps-tell (Run file procedure structure) told there = both (file_program file told) _ (program-tells file told (there file (inl refl))) (run-tells a no_refusal procedure structure)
  steps-tell (Sample number n) told there = both (sampled number) _ (text_program-tells _) (sample-tells a no_refusal number _ n)
  steps-tell (Listing file name n start k) told there = both (file_program file told) _ (program-tells file told (there file (inl refl))) (list-tells a no_refusal name n start k)
  steps-tell (Audit file n w) told there = both (file_program file told) _ (program-tells file told (there file (inl refl))) (audit-tells a no_refusal n w)

untold_output : (bytes : List ℕ) → Untold ≡ Output bytes → ⊥
untold_output bytes e = cc

no_output : (bytes : List ℕ) (s : Status) (line : List ℕ) → Output bytes ≡ Refusal s line → ⊥
no_output bytes s line e = cc

same_output : (b c : List ℕ) → Output b ≡ Output c → b ≡ c
same_output b c e = cc

pub outcome_tells : (told : Told) (words : List (List ℕ)) → FilesAreTold told words → Outcome told words Untold → ⊥
unfolding Outcome ◌and_then◌
outcome_tells told words there (inl (inl w)) = words-tell Untold untold (command_of words) w
outcome_tells told words there (inl (inr (c, (none, form), r))) = steps-tell Untold untold c told (λ file i e _. there c form file i e) r
outcome_tells told words there (inr (bytes, h, e)) = untold_output bytes e

-- where the outcome is an output, the steps of the command hand it on
pub handed_on : (told : Told) (words : List (List ℕ)) (c : Command) → command_of words ≡ Some c → (bytes : List ℕ) → Outcome told words (Output bytes) → (steps_of c told).hands bytes
unfolding Outcome ◌and_then◌
handed_on told words c e bytes (inl (inl w)) = absurd (words-tell (Output bytes) (no_output bytes) (command_of words) w)
handed_on told words c e bytes (inl (inr (d, (none, form), r))) = absurd (steps-tell (Output bytes) (no_output bytes) d told (λ file i e u. untold_output bytes (sym u)) r)
handed_on told words c e bytes (inr (other, (d, (none, form), h), same)) =
    subst (λ (z : Command). (steps_of z told).hands bytes) (some_same d c (sym form ∙ e)) (subst (λ (z : List ℕ). (steps_of d told).hands z) (sym (same_output bytes other same)) h)
