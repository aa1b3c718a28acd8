-- What the words are read as.
use Rattle.std.specs.Prelude.{◌≡◌, ℕ, min, List, Option, None, Some, Result, Ok, Err}
use Rattle.luo_answer.specs.declared.refusal.Refusal.{Refusal}
use Rattle.luo_answer.specs.declared.refusal.Refusal.TheVariants.{Usage, Refused, Limit, Overflow, ReadFault, NoMemory}
use Rattle.luo_answer.specs.declared.words.TheConstants.{NUMBER_CAP}
use Rattle.luo_answer.specs.declared.words.Request.{Request}
use Rattle.luo_answer.specs.declared.words.Request.TheVariants.{Analyse, Format, Run, Sample, Listing, Audit}
use Rattle.luo_answer.specs.declared.status.Status.TheVariants as way
use Rattle.luo_answer.specs.Answer as answer
use Rattle.luo_answer.specs.Step.{HasNone}
use Rattle.luo_answer.specs.Words as words'
use Rattle.luo_answer.specs.Words.{number_of, command_of, HasNoForm, LimitOfWords}
use Rattle.luo_answer.specs.inner.Passes.{bytes_of}

-- the number of a word up to the cap, where it has one
abbrev pub IsNumber : List ℕ → Option ℕ → Type 0
IsNumber word None = number_of word ≡ None
IsNumber word (Some v) = (n : ℕ) × (number_of word ≡ Some n) × (v ≡ min n NUMBER_CAP)

-- the request is that of the command, with its number up to the cap
abbrev pub IsRequest : words'.Command → Request → Type 0
IsRequest command (Analyse file last) =
    (n : ℕ) × (command ≡ words'.Analyse file.now n) × (last ≡ min n NUMBER_CAP)
IsRequest command (Format file) = command ≡ words'.Format file.now
IsRequest command (Run file procedure structure) =
    command ≡ words'.Run file.now procedure.now structure.now
IsRequest command (Sample number last) =
    (k : ℕ) × (n : ℕ) × (command ≡ words'.Sample k n) × (number ≡ min k NUMBER_CAP)
    × (last ≡ min n NUMBER_CAP)
IsRequest command (Listing file name last start most) =
    (n : ℕ) × (s : ℕ) × (k : ℕ) × (command ≡ words'.Listing file.now name.now n s k)
    × (last ≡ min n NUMBER_CAP) × (start ≡ min s NUMBER_CAP) × (most ≡ min k NUMBER_CAP)
IsRequest command (Audit file last workers) =
    (n : ℕ) × (w : ℕ) × (command ≡ words'.Audit file.now n w)
    × (last ≡ min n NUMBER_CAP) × (workers ≡ min w NUMBER_CAP)

-- the request goes on, where the words of its command pass no limit by themselves, and else their
-- limit refuses it
abbrev pub Keeps : words'.Command → Request → Result Request Refusal → Type 0
Keeps c request (Ok r) = (r ≡ request) × HasNone (LimitOfWords c)
Keeps c request (Err Usage) = ⊥
Keeps c request (Err (Refused l)) = ⊥
Keeps c request (Err (Limit l)) = LimitOfWords c (answer.Refusal way.Limit (bytes_of l))
Keeps c request (Err (Overflow l)) = ⊥
Keeps c request (Err ReadFault) = ⊥
Keeps c request (Err NoMemory) = ⊥

-- there is no command and no request, or the request is that of the command
abbrev pub IsRequestOf : Option words'.Command → Option Request → Type 0
IsRequestOf None None = Unit {0}
IsRequestOf (Some command) (Some request) = IsRequest command request
IsRequestOf command request = ⊥

-- the words alone are refused so
abbrev pub RefusedByWords : List (List ℕ) → Refusal → Type 0
RefusedByWords words Usage = HasNoForm words
RefusedByWords words (Refused l) = ⊥
RefusedByWords words (Limit l) =
    (c : words'.Command) × (command_of words ≡ Some c)
    × LimitOfWords c (answer.Refusal way.Limit (bytes_of l))
RefusedByWords words (Overflow l) = ⊥
RefusedByWords words ReadFault = ⊥
RefusedByWords words NoMemory = ⊥

-- the command that the words ask for, or their refusal
abbrev pub Asks : List (List ℕ) → Result Request Refusal → Type 0
Asks words (Ok request) =
    (c : words'.Command) × (command_of words ≡ Some c) × HasNone (LimitOfWords c)
    × IsRequest c request
Asks words (Err e) = RefusedByWords words e
