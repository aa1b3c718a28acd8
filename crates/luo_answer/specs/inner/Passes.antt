-- What the calls of the steps answer.
use Rattle.std.specs.Prelude.{◌≡◌, ◌⊎◌, ⊤, ℕ, List, codes, Option, Result, Ok, Err}
use Rattle.luo_finite.specs.Listing.{In}
use Rattle.luo_outside.specs.Causes.{Rose, NoneFell}
use Rattle.luo_answer.specs.declared.status.Status.{Status}
use Rattle.luo_answer.specs.declared.status.Status.TheVariants as way
use Rattle.luo_answer.specs.declared.refusal.Line.{Line}
use Rattle.luo_answer.specs.declared.refusal.Line.TheVariants.{Fixed, Made}
use Rattle.luo_answer.specs.declared.refusal.Refusal.{Refusal}
use Rattle.luo_answer.specs.declared.refusal.Refusal.TheVariants.{Usage, Refused, Limit, Overflow, ReadFault, NoMemory}
use Rattle.luo_answer.specs.Answer as answer
use Rattle.luo_answer.specs.Lines.{line, usage_line}
use Rattle.luo_answer.specs.Step.{Step}
use Rattle.luo_answer.specs.Told.{Told, without}

abbrev pub bytes_of : Line → List ℕ
bytes_of (Fixed bytes) = bytes.now
bytes_of (Made bytes) = bytes.items

-- the status that a run ends with
abbrev pub status_of : Refusal → Status
status_of Usage = way.Usage
status_of (Refused l) = way.Refused
status_of (Limit l) = way.Limit
status_of (Overflow l) = way.Overflow
status_of ReadFault = way.ReadFault
status_of NoMemory = way.NoMemory

-- the line that is sent
abbrev pub line_of : Refusal → List ℕ
line_of Usage = usage_line
line_of (Refused l) = bytes_of l
line_of (Limit l) = bytes_of l
line_of (Overflow l) = bytes_of l
line_of ReadFault = line (codes "read fault")
line_of NoMemory = line (codes "no memory")

-- the refusal is one of these answers, or memory was refused
abbrev pub RefusedBy : (answer.Answer → Type 0) → Refusal → Type 0
RefusedBy refuses Usage = ⊥
RefusedBy refuses (Refused l) = refuses (answer.Refusal way.Refused (bytes_of l))
RefusedBy refuses (Limit l) = refuses (answer.Refusal way.Limit (bytes_of l))
RefusedBy refuses (Overflow l) = refuses (answer.Refusal way.Overflow (bytes_of l))
RefusedBy refuses ReadFault = ⊥
RefusedBy refuses NoMemory = Unit {0}

-- the step hands on what the view shows of the value, or refuses so
abbrev pub AnswersOf : {X Y : Type 0} → (Y → X) → Step X → Result Y Refusal → Type 0
AnswersOf view step (Ok y) = step.hands (view y)
AnswersOf view step (Err e) = RefusedBy step.refuses e

-- what a call of a step answers
pub record Passes {X Y : Type 0} (view : Y → X) (step : Step X)
    (result : Result Y Refusal) : Type 0 where
  pub answers : AnswersOf view step result

-- a value is what it is seen as
abbrev pub itself : {X : Type 0} → X → X
itself x = x

-- nothing of a value is seen
abbrev pub none : {X : Type 0} → X → ⊤
none x = tt

-- what a source tells, and how often each file failed, before a call and behind it
pub record Seen : Type 0 where
  pub told : Told
  pub told_new : Told
  pub old : List ℕ → ℕ
  pub new : List ℕ → ℕ

-- what a source tells, and its counts
abbrev pub seen : {F : Type 0} → (F → List ℕ → Option (List ℕ)) → (F → List ℕ → ℕ) → F → F → Seen
seen named faults old new =
    record { told = named old; told_new = named new; old = faults old; new = faults new }

-- the count of a file rose, without which the step doesn't tell
abbrev pub Failed : {X : Type 0} → List (List ℕ) → (Told → Step X) → Seen → Type 0
Failed files step s =
    (file : List ℕ) × In file files × (step (without file s.told)).refuses answer.Untold
    × Rose (s.old file) (s.new file)

-- the step doesn't tell, or gives this answer
abbrev pub Tells : {X : Type 0} → Step X → answer.Answer → Type 0
Tells step a = step.refuses answer.Untold ⊎ step.refuses a

-- the step refuses so over the files, where it tells, or a file failed, or memory was refused
abbrev pub StopsOver : {X : Type 0} → List (List ℕ) → (Told → Step X) → Seen → Refusal → Type 0
StopsOver files step s Usage = ⊥
StopsOver files step s (Refused l) = Tells (step s.told) (answer.Refusal way.Refused (bytes_of l))
StopsOver files step s (Limit l) = Tells (step s.told) (answer.Refusal way.Limit (bytes_of l))
StopsOver files step s (Overflow l) = Tells (step s.told) (answer.Refusal way.Overflow (bytes_of l))
StopsOver files step s ReadFault = Failed files step s
StopsOver files step s NoMemory = Unit {0}

-- the step hands on what the view shows of the value, where it tells, or stops so
abbrev pub AnswersOver : {X Y : Type 0} → (Y → X) → List (List ℕ) → (Told → Step X) → Seen
    → Result Y Refusal → Type 0
AnswersOver view files step s (Ok y) =
    (step s.told).refuses answer.Untold ⊎ (step s.told).hands (view y)
AnswersOver view files step s (Err e) = StopsOver files step s e

-- what a call of a step answers that reads files
pub record PassesOver {X Y : Type 0} (view : Y → X) (files : List (List ℕ)) (step : Told → Step X)
    (s : Seen) (result : Result Y Refusal) : Type 0 where
  pub answers : AnswersOver view files step s result
  pub same_told : (name : List ℕ) → s.told_new name ≡ s.told name
  pub none_fell : NoneFell s.old s.new
