-- One text under every name.
use Rattle.std.specs.Prelude.{◌≡◌, ◌<◌, ℕ, List, length, Option, Some}
use Rattle.luo_finite.specs.Listing.{In}
use Rattle.luo_num.specs.declared.limits.TheConstants.{TEXT_LIMIT}
use Rattle.luo_answer.specs.declared.status.Status.TheVariants.{Limit}
use Rattle.luo_answer.specs.Answer.{Refusal}
use Rattle.luo_answer.specs.Lines.{bytes_line}
use Rattle.luo_answer.specs.Told.{Told}
use Rattle.luo_answer.specs.Words.{Command, command_of, files_of}
use Rattle.luo_top.specs.AsWritten.Outcome.{OutcomeAsWritten}

-- a source that tells this text of every file
abbrev pub everywhere : List ℕ → Told
everywhere text name = Some text

-- where the words name a file and the text is too long for one, the outcome is that limit
abbrev pub IsTooLong : List (List ℕ) → List ℕ → Type 0
IsTooLong words text =
    (command : Command) → (command_of words ≡ Some command) → (file : List ℕ)
    → In file (files_of command) → TEXT_LIMIT < length text
    → OutcomeAsWritten (everywhere text) words (Refusal Limit bytes_line)
