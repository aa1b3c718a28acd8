-- The main theorem, a clause a line.
use Rattle.std.specs.Prelude.{◌≡◌, ◌⊎◌, ◌↔◌, ℕ, List, codes, Option, Some}
use Rattle.std.specs.Io.KnownBytes.{Appends}
use Rattle.luo_finite.specs.Listing.{In}
use Rattle.luo_outside.specs.Bytes.{TookPrefix}
use Rattle.luo_outside.specs.Causes.{Rose}
use Rattle.luo_answer.specs.declared.status.Status.{Status}
use Rattle.luo_answer.specs.declared.status.Status.TheVariants.{Done, Usage, Refused, Limit, Overflow, ReadFault, WriteFault, NoMemory}
use Rattle.luo_answer.specs.Answer.{Answer, Output, Refusal, Untold}
use Rattle.luo_answer.specs.Lines.{line}
use Rattle.luo_answer.specs.Step.{HasNone}
use Rattle.luo_answer.specs.Told.{Told, without}
use Rattle.luo_answer.specs.Words.{Command, command_of, files_of, HasNoForm, WordsRefusal}
use Rattle.luo_top.specs.AsWritten.Outcome.{OutcomeAsWritten}

-- what a run has to do with a sink, before it and now
pub record Sinking (S : Type 0) : Type 0 where
  pub old : S
  pub new : S
  pub taken_old : Option (List ℕ)
  pub taken_new : Option (List ℕ)
  pub faults_old : ℕ
  pub faults_new : ℕ

-- a sink by what it took and by how often it failed
abbrev pub sinking : {S : Type 0} → (S → Option (List ℕ)) → (S → ℕ) → S → S → Sinking S
sinking taken faults old new =
    record {
      old = old;
      new = new;
      taken_old = taken old;
      taken_new = taken new;
      faults_old = faults old;
      faults_new = faults new;
    }

-- a run: its words, what the source tells, how often each file failed before it and now, and both
-- sinks
pub record Run (O E : Type 0) : Type 0 where
  pub words : List (List ℕ)
  pub told : Told
  pub faults_old : List ℕ → ℕ
  pub faults_new : List ℕ → ℕ
  pub out : Sinking O
  pub err : Sinking E

-- the sink is as it was
abbrev pub IsUntouched : {S : Type 0} → Sinking S → Type 0
IsUntouched sink = sink.new ≡ sink.old

-- the sink took exactly these bytes
abbrev pub Took : {S : Type 0} → Sinking S → List ℕ → Type 0
Took sink bytes = Appends sink.taken_old sink.taken_new bytes

-- its count rose, and it took a prefix of these bytes
abbrev pub TookPart : {S : Type 0} → Sinking S → List ℕ → Type 0
TookPart sink bytes =
    Rose sink.faults_old sink.faults_new × TookPrefix sink.taken_old sink.taken_new bytes

abbrev pub TookLine : {S : Type 0} → Sinking S → List ℕ → Type 0
TookLine sink bytes = Took sink bytes ⊎ TookPart sink bytes

-- the answer is the outcome, or the outcome isn't told
abbrev pub Answers : {O E : Type 0} → Run O E → Answer → Type 0
Answers run answer =
    OutcomeAsWritten run.told run.words answer ⊎ OutcomeAsWritten run.told run.words Untold

-- the count of a file of the words rose, without which the outcome isn't told
abbrev pub FileFailed : {O E : Type 0} → Run O E → Type 0
FileFailed run =
    (command : Command) × (command_of run.words ≡ Some command) × (file : List ℕ)
    × In file (files_of command)
    × OutcomeAsWritten (without file run.told) run.words Untold
    × Rose (run.faults_old file) (run.faults_new file)

abbrev pub SinkFailed : {S : Type 0} → Sinking S → Type 0
SinkFailed sink = Rose sink.faults_old sink.faults_new

-- the status of a refusal
abbrev pub IsRefusal : Status → Type 0
IsRefusal Done = ⊥
IsRefusal Usage = Unit {0}
IsRefusal Refused = Unit {0}
IsRefusal Limit = Unit {0}
IsRefusal Overflow = Unit {0}
IsRefusal ReadFault = ⊥
IsRefusal WriteFault = ⊥
IsRefusal NoMemory = ⊥

-- the words alone refuse so
abbrev pub WordsRefuse : List (List ℕ) → Answer → Type 0
WordsRefuse words = WordsRefusal (command_of words)

-- a run that ends with this status
pub record IsRight {O E : Type 0} (run : Run O E) (status : Status) : Type 0 where
  -- the outcome is an output, and the whole of it was taken
  pub done : status ≡ Done
      → IsUntouched run.err × (bytes : List ℕ) × Answers run (Output bytes) × Took run.out bytes
  -- the outcome is this refusal, and its line was sent
  pub refused : IsRefusal status
      → IsUntouched run.out × (bytes : List ℕ) × Answers run (Refusal status bytes)
      × TookLine run.err bytes
  -- a file that the outcome rests on failed
  pub read_fault : status ≡ ReadFault
      → IsUntouched run.out × FileFailed run × TookLine run.err (line (codes "read fault"))
  -- the outcome is an output, and a prefix of it was taken
  pub write_fault : status ≡ WriteFault
      → ((bytes : List ℕ) × Answers run (Output bytes) × TookPart run.out bytes)
      × TookLine run.err (line (codes "write fault"))
  -- memory was refused, and the words alone refuse nothing
  pub no_memory : status ≡ NoMemory
      → IsUntouched run.out × HasNone (WordsRefuse run.words)
      × TookLine run.err (line (codes "no memory"))
  -- words of no form, whatever the source tells
  pub usage : (status ≡ Usage) ↔ HasNoForm run.words
  -- what the words alone refuse is answered, whatever the source tells
  pub words_alone : (s : Status) (bytes : List ℕ) → WordsRefuse run.words (Refusal s bytes)
      → (status ≡ s) × TookLine run.err bytes
  -- an output comes where nothing outside fails, but for want of memory
  pub output_comes : (bytes : List ℕ) → OutcomeAsWritten run.told run.words (Output bytes)
      → (FileFailed run → ⊥) → (SinkFailed run.out → ⊥) → (status ≡ Done) ⊎ (status ≡ NoMemory)
  -- and so does a refusal where no file fails
  pub refusal_comes : (s : Status) (bytes : List ℕ)
      → OutcomeAsWritten run.told run.words (Refusal s bytes)
      → (FileFailed run → ⊥) → (status ≡ s) ⊎ (status ≡ NoMemory)
