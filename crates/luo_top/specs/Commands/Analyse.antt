-- `analyse FILE N`
use Rattle.std.specs.Prelude.{ℕ, List}
use Rattle.luo_answer.specs.Commands.Analyse.{analyse_program}
use Rattle.luo_answer.specs.Step.{Step, ◌and_then◌}
use Rattle.luo_answer.specs.Told.{Told}
use Rattle.luo_top.specs.Steps.{file_program}

-- the report of the program of a file for the sizes up to n
abbrev pub analyse : List ℕ → ℕ → Told → Step (List ℕ)
analyse file n told = file_program file told and_then analyse_program n
