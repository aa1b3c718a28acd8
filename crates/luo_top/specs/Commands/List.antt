-- `list FILE TYPE N START COUNT`
use Rattle.std.specs.Prelude.{ℕ, List}
use Rattle.luo_answer.specs.Commands.List.{list_named}
use Rattle.luo_answer.specs.Step.{Step, ◌and_then◌}
use Rattle.luo_answer.specs.Told.{Told}
use Rattle.luo_top.specs.Steps.{file_program}

-- the structures of the type of this name of size n from place `start` on, at most k of them
abbrev pub list : List ℕ → List ℕ → ℕ → ℕ → ℕ → Told → Step (List ℕ)
list file name n start k told = file_program file told and_then list_named name n start k
