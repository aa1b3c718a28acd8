-- The answer to the words.
use Rattle.std.specs.Prelude.{◌≡◌, ◌⊎◌, ℕ, List, Some, Result, Err}
use Rattle.luo_answer.specs.declared.refusal.Refusal.{Refusal}
use Rattle.luo_answer.specs.Step.{HasNone}
use Rattle.luo_answer.specs.Words.{Command, command_of, files_of, LimitOfWords}
use Rattle.luo_answer.specs.inner.Passes.{PassesOver, Seen, itself}
use Rattle.luo_answer.specs.inner.Requests.{RefusedByWords}
use Rattle.luo_top.specs.Outcome.{steps_of}

-- the answer to the words: their refusal, or that of the steps of their command
abbrev pub IsAnswer : List (List ℕ) → Seen → Result (List ℕ) Refusal → Type 0
IsAnswer words s result =
    ((e : Refusal) × (result ≡ Err e) × RefusedByWords words e)
    ⊎ ((c : Command) × (command_of words ≡ Some c) × HasNone (LimitOfWords c)
    × PassesOver itself (files_of c) (steps_of c) s result)
