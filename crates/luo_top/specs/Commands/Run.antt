-- `run FILE PROC STRUCTURE`
use Rattle.std.specs.Prelude.{ℕ, List}
use Rattle.luo_answer.specs.Commands.Run.{run_named}
use Rattle.luo_answer.specs.Step.{Step, ◌and_then◌}
use Rattle.luo_answer.specs.Told.{Told}
use Rattle.luo_top.specs.Steps.{file_program}

-- what the procedure of this name charges on the structure of this text
abbrev pub run : List ℕ → List ℕ → List ℕ → Told → Step (List ℕ)
run file procedure structure told = file_program file told and_then run_named procedure structure
