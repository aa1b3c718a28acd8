-- A run over a text that is there, with sinks that take everything: the main theorem where nothing fails.
use Rattle.std.proofs.Common.{arith, ◌≡◌, ℕ, List, ◌<◌, length, inl, inr, refl, subst, Some}
use Rattle.std.specs.Prelude.{◌⊎◌}
use Rattle.luo_finite.specs.Listing.{In}
use Rattle.luo_num.specs.declared.limits.TheConstants.{TEXT_LIMIT}
use Rattle.luo_outside.specs.Causes.{Rose}
use Rattle.luo_answer.specs.declared.status.Status.{Status}
use Rattle.luo_answer.specs.declared.status.Status.TheVariants.{Done, Limit, ReadFault, WriteFault, NoMemory}
use Rattle.luo_answer.specs.Answer.{Output, Refusal}
use Rattle.luo_answer.specs.Lines.{bytes_line}
use Rattle.luo_answer.specs.Step.{◌and_then◌, HasNone}
use Rattle.luo_answer.specs.Words.{Command, Analyse, Format, Run, Sample, Listing, Audit, command_of, files_of, LimitOfWords, WordsRefusal}
use Rattle.luo_top.specs.AsWritten.Outcome.{OutcomeAsWritten, steps_as_written}
use Rattle.luo_top.specs.Headline as headline
use Rattle.luo_top.specs.Headline.{IsRight, FileFailed, WordsRefuse}
use Rattle.luo_top.specs.Sure.{everywhere, IsTooLong}

-- a count that stays 0 didn't rise
pub no_rise : Rose 0 0 → ⊥
no_rise rose = omega (arith, rose)

-- a run in which no file and no sink fails
module _ {O E : Type 0} (run : headline.Run O E) (status : Status) (right : IsRight run status) (files : (file : List ℕ) → Rose (run.faults_old file) (run.faults_new file) → ⊥)
    (out : Rose run.out.faults_old run.out.faults_new → ⊥) where
  no_file : FileFailed run → ⊥
  no_file (command, form, file, within, untold, rose) = files file rose

  pub no_read_fault : status ≡ ReadFault → ⊥
  no_read_fault e = no_file (right.read_fault e).1

  pub no_write_fault : status ≡ WriteFault → ⊥
  no_write_fault e = out (right.write_fault e).0.2.0

  pub output : (bytes : List ℕ) → OutcomeAsWritten run.told run.words (Output bytes) → (status ≡ Done) ⊎ (status ≡ NoMemory)
  output bytes outcome = right.output_comes bytes outcome no_file out

  pub refusal : (s : Status) (bytes : List ℕ) → OutcomeAsWritten run.told run.words (Refusal s bytes) → (status ≡ s) ⊎ (status ≡ NoMemory)
  refusal s bytes outcome = right.refusal_comes s bytes outcome no_file

-- the words of a command that reads a file refuse nothing by themselves
no_limit : (c : Command) (file : List ℕ) → In file (files_of c) → HasNone (LimitOfWords c)
no_limit (Analyse f n) file within answer limit = limit
no_limit (Format f) file within answer limit = limit
no_limit (Run f procedure structure) file within answer limit = limit
no_limit (Sample number n) file within answer limit = within
no_limit (Listing f name n start count) file within answer limit = limit
no_limit (Audit f n workers) file within answer limit = limit

nothing : (words : List (List ℕ)) (c : Command) → command_of words ≡ Some c → HasNone (LimitOfWords c) → HasNone (WordsRefuse words)
nothing words c form none answer refused = none answer (subst (λ o. WordsRefusal o answer) form refused)

-- the first step of such a command is to read its file
refuses : (text : List ℕ) (c : Command) (file : List ℕ) → In file (files_of c) → TEXT_LIMIT < length text → (steps_as_written c (everywhere text)).refuses (Refusal Limit bytes_line)
unfolding ◌and_then◌
refuses text (Analyse f n) file within long = inl (inl (long, refl))
refuses text (Format f) file within long = inl (inl (long, refl))
refuses text (Run f procedure structure) file within long = inl (inl (long, refl))
refuses text (Sample number n) file within long = absurd within
refuses text (Listing f name n start count) file within long = inl (inl (long, refl))
refuses text (Audit f n workers) file within long = inl (inl (long, refl))

pub too_long : (words : List (List ℕ)) (text : List ℕ) → IsTooLong words text
unfolding OutcomeAsWritten ◌and_then◌
too_long words text c form file within long = inl (inr (c, (nothing words c form (no_limit c file within), form), refuses text c file within long))
