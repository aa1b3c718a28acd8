-- The words of the command line.
use Rattle.std.specs.Prelude.{◌≡◌, ◌<◌, ℕ, List, [], ◌∷◌, map, codes, string_bytes, String, Bool, true, false, not, ◌&&◌, leb, ◌==◌, if◌then◌else◌, Option, None, Some}
use Rattle.std.specs.declared.alloc.Global.{Global}
use Rattle.std.specs.Option.{option_map, option_and_then}
use Rattle.std.specs.Str.{bytes_eq}
use Rattle.luo_finite.specs.Steps.{◌or_else◌}
use Rattle.luo_num.specs.declared.limits.TheConstants.{SIZE_LIMIT, SAMPLE_LIMIT}
use Rattle.luo_scan.specs.Spellings.{value_after}
use Rattle.luo_answer.specs.declared.status.Status.TheVariants.{Usage, Limit}
use Rattle.luo_answer.specs.Answer.{Answer, Refusal}
use Rattle.luo_answer.specs.Lines.{usage_line, size_line, sample_line}
use Rattle.luo_answer.specs.Step.{Step, ◌or_makes◌, RefusedWhere}

-- the bytes of each word
abbrev pub texts : List (String Global) → List (List ℕ)
texts words = map string_bytes words

-- what the words ask for
pub data Command : Type 0 where
  Analyse : List ℕ → ℕ → Command
  Format : List ℕ → Command
  Run : List ℕ → List ℕ → List ℕ → Command
  Sample : ℕ → ℕ → Command
  Listing : List ℕ → List ℕ → ℕ → ℕ → ℕ → Command
  Audit : List ℕ → ℕ → ℕ → Command

abbrev pub are_digits : List ℕ → Bool
are_digits [] = true
are_digits (d ∷ ds) = leb 48 d && leb d 57 && are_digits ds

-- there is a first digit, and where others follow it isn't 0
abbrev pub is_led : List ℕ → Bool
is_led [] = false
is_led (d ∷ []) = true
is_led (d ∷ e ∷ ds) = not (d == 48)

-- the number of `0`, or of a digit from 1 to 9 followed by digits
abbrev pub number_of : List ℕ → Option ℕ
number_of word = if is_led word && are_digits word then Some (value_after 0 word) else None

-- FILE N
abbrev pub analyse_of : List (List ℕ) → Option Command
analyse_of (file ∷ n ∷ []) = option_map (Analyse file) (number_of n)
analyse_of other = None

-- FILE
abbrev pub format_of : List (List ℕ) → Option Command
format_of (file ∷ []) = Some (Format file)
format_of other = None

-- FILE PROC STRUCTURE
abbrev pub run_of : List (List ℕ) → Option Command
run_of (file ∷ procedure ∷ structure ∷ []) = Some (Run file procedure structure)
run_of other = None

-- NUMBER N
abbrev pub sample_of : List (List ℕ) → Option Command
sample_of (number ∷ n ∷ []) =
    option_and_then (λ k. option_map (Sample k) (number_of n)) (number_of number)
sample_of other = None

-- FILE TYPE N START COUNT
abbrev pub list_of : List (List ℕ) → Option Command
list_of (file ∷ name ∷ n ∷ start ∷ count ∷ []) =
    option_and_then
    (λ size. option_and_then (λ place. option_map (Listing file name size place) (number_of count))
    (number_of start)) (number_of n)
list_of other = None

-- FILE N WORKERS
abbrev pub audit_of : List (List ℕ) → Option Command
audit_of (file ∷ n ∷ workers ∷ []) =
    option_and_then (λ size. option_map (Audit file size) (number_of workers)) (number_of n)
audit_of other = None

-- the command whose form the words have
abbrev pub command_of : List (List ℕ) → Option Command
command_of [] = None
command_of (name ∷ rest) =
    if bytes_eq name (codes "analyse") then analyse_of rest
    else if bytes_eq name (codes "format") then format_of rest
    else if bytes_eq name (codes "run") then run_of rest
    else if bytes_eq name (codes "sample") then sample_of rest
    else if bytes_eq name (codes "list") then list_of rest
    else if bytes_eq name (codes "audit") then audit_of rest
    else None

-- the words have the form of no command
abbrev pub HasNoForm : List (List ℕ) → Type 0
HasNoForm words = command_of words ≡ None

-- the files of a command, in the order in which they are read
abbrev pub files_of : Command → List (List ℕ)
files_of (Analyse file n) = file ∷ []
files_of (Format file) = file ∷ []
files_of (Run file procedure structure) = file ∷ []
files_of (Sample number n) = []
files_of (Listing file name n start count) = file ∷ []
files_of (Audit file n workers) = file ∷ []

-- a number that is too large, and else a size that is
abbrev pub LimitOfSample : ℕ → ℕ → Answer → Type 0
LimitOfSample number n =
    RefusedWhere (SAMPLE_LIMIT < number) Limit sample_line or_else RefusedWhere
    (SIZE_LIMIT < n) Limit size_line

-- the limits that the words of a command pass by themselves: none, where its numbers are looked at
-- behind its file
abbrev pub LimitOfWords : Command → Answer → Type 0
LimitOfWords (Analyse file n) answer = ⊥
LimitOfWords (Format file) answer = ⊥
LimitOfWords (Run file procedure structure) answer = ⊥
LimitOfWords (Sample number n) answer = LimitOfSample number n answer
LimitOfWords (Listing file name n start count) answer = ⊥
LimitOfWords (Audit file n workers) answer = ⊥

-- what the words alone refuse: that they have no form, or a limit that they pass
abbrev pub WordsRefusal : Option Command → Answer → Type 0
WordsRefusal None answer = answer ≡ Refusal Usage usage_line
WordsRefusal (Some command) answer = LimitOfWords command answer

-- the step that rests on the words alone: a refusal of theirs, and else their command
abbrev pub asked_by : List (List ℕ) → Step Command
asked_by words = WordsRefusal (command_of words) or_makes λ command. command_of words ≡ Some command
