-- What holds of every outcome.
use Rattle.std.specs.Prelude.{◌≡◌, ◌⊎◌, ◌↔◌, ◌≤◌, ℕ, List, [], ◌∷◌, codes, None, Some}
use Rattle.luo_finite.specs.Listing.{In}
use Rattle.luo_finite.specs.Steps.{IsSingle}
use Rattle.luo_num.specs.declared.limits.TheConstants.{SIZE_LIMIT, SAMPLE_LIMIT}
use Rattle.luo_answer.specs.declared.status.Status.TheVariants.{Overflow}
use Rattle.luo_answer.specs.Answer.{Answer, Output, Refusal, Untold}
use Rattle.luo_answer.specs.NumberWords.{IsNumberWord}
use Rattle.luo_answer.specs.Step.{HasNone}
use Rattle.luo_answer.specs.Told.{Told}
use Rattle.luo_answer.specs.Words.{Command, Analyse, Format, Run, Sample, command_of, files_of, number_of, Listing, Audit}
use Rattle.luo_top.specs.AsWritten.Outcome.{OutcomeAsWritten}
use Rattle.luo_top.specs.Outcome.{Outcome}

-- at most one answer is the outcome
abbrev pub OutcomeIsOne : Type 0
OutcomeIsOne = (told : Told) (words : List (List ℕ)) → IsSingle (OutcomeAsWritten told words)

-- it can't be that none is
abbrev pub OutcomeComes : Type 0
OutcomeComes = (told : Told) (words : List (List ℕ)) → HasNone (OutcomeAsWritten told words) → ⊥

-- each file of the words is told
abbrev pub FilesAreTold : Told → List (List ℕ) → Type 0
FilesAreTold told words =
    (command : Command) → command_of words ≡ Some command
    → (file : List ℕ) → In file (files_of command) → told file ≡ None → ⊥

-- where each file of the words is told, so is the outcome
abbrev pub OutcomeIsTold : Type 0
OutcomeIsTold =
    (told : Told) (words : List (List ℕ)) → FilesAreTold told words
    → OutcomeAsWritten told words Untold → ⊥

-- the outcome over the core form of a source is the one by what the source means as it is written
abbrev pub OutcomeIsAsWritten : Type 0
OutcomeIsAsWritten =
    (told : Told) (words : List (List ℕ)) (answer : Answer)
    → Outcome told words answer ↔ OutcomeAsWritten told words answer

-- these and no others are the number words
abbrev pub NumbersAreSpelled : Type 0
NumbersAreSpelled = (word : List ℕ) (n : ℕ) → (number_of word ≡ Some n) ↔ IsNumberWord word n

-- the words of `analyse FILE N`, and no others, ask for it
abbrev pub AnalyseIsSpelled : Type 0
AnalyseIsSpelled =
    (words : List (List ℕ)) (file : List ℕ) (n : ℕ)
    → (command_of words ≡ Some (Analyse file n))
    ↔ ((word : List ℕ) × (words ≡ codes "analyse" ∷ file ∷ word ∷ []) × IsNumberWord word n)

-- the words of `format FILE`, and no others, ask for it
abbrev pub FormatIsSpelled : Type 0
FormatIsSpelled =
    (words : List (List ℕ)) (file : List ℕ)
    → (command_of words ≡ Some (Format file)) ↔ (words ≡ codes "format" ∷ file ∷ [])

-- the words of `run FILE PROC STRUCTURE`, and no others, ask for it
abbrev pub RunIsSpelled : Type 0
RunIsSpelled =
    (words : List (List ℕ)) (file procedure structure : List ℕ)
    → (command_of words ≡ Some (Run file procedure structure))
    ↔ (words ≡ codes "run" ∷ file ∷ procedure ∷ structure ∷ [])

-- the words of `sample NUMBER N`, and no others, ask for it
abbrev pub SampleIsSpelled : Type 0
SampleIsSpelled =
    (words : List (List ℕ)) (number n : ℕ)
    → (command_of words ≡ Some (Sample number n))
    ↔ ((first : List ℕ) × (second : List ℕ) × (words ≡ codes "sample" ∷ first ∷ second ∷ [])
    × IsNumberWord first number × IsNumberWord second n)

-- an output, or a number that is too large
abbrev pub IsTaken : Answer → Type 0
IsTaken answer =
    ((bytes : List ℕ) × (answer ≡ Output bytes))
    ⊎ ((bytes : List ℕ) × (answer ≡ Refusal Overflow bytes))

-- a sample within its limits is refused for nothing but a number that is too large
abbrev pub SamplesAreTaken : Type 0
SamplesAreTaken =
    (told : Told) (words : List (List ℕ)) (number n : ℕ) → command_of words ≡ Some (Sample number n)
    → number ≤ SAMPLE_LIMIT → n ≤ SIZE_LIMIT
    → (answer : Answer) → OutcomeAsWritten told words answer → IsTaken answer

-- the words of `list FILE TYPE N START COUNT`, and no others, ask for it
abbrev pub ListIsSpelled : Type 0
ListIsSpelled =
    (words : List (List ℕ)) (file name : List ℕ) (n start count : ℕ)
    → (command_of words ≡ Some (Listing file name n start count))
    ↔ ((size : List ℕ) × (place : List ℕ) × (most : List ℕ)
    × (words ≡ codes "list" ∷ file ∷ name ∷ size ∷ place ∷ most ∷ [])
    × IsNumberWord size n × IsNumberWord place start × IsNumberWord most count)

-- the words of `audit FILE N WORKERS`, and no others, ask for it
abbrev pub AuditIsSpelled : Type 0
AuditIsSpelled =
    (words : List (List ℕ)) (file : List ℕ) (n w : ℕ)
    → (command_of words ≡ Some (Audit file n w))
    ↔ ((size : List ℕ) × (workers : List ℕ) × (words ≡ codes "audit" ∷ file ∷ size ∷ workers ∷ [])
    × IsNumberWord size n × IsNumberWord workers w)

-- two audits of one file up to one size have one output, whatever their numbers of workers
abbrev pub AuditsAgree : Type 0
AuditsAgree =
    (told : Told) (first second : List (List ℕ)) (file : List ℕ) (n v w : ℕ)
    → command_of first ≡ Some (Audit file n v) → command_of second ≡ Some (Audit file n w)
    → (a b : List ℕ) → OutcomeAsWritten told first (Output a)
    → OutcomeAsWritten told second (Output b) → a ≡ b

-- and so have an audit and the report that is made without walking structures
abbrev pub AuditsReport : Type 0
AuditsReport =
    (told : Told) (first second : List (List ℕ)) (file : List ℕ) (n w : ℕ)
    → command_of first ≡ Some (Audit file n w) → command_of second ≡ Some (Analyse file n)
    → (a b : List ℕ) → OutcomeAsWritten told first (Output a)
    → OutcomeAsWritten told second (Output b) → a ≡ b
