-- `audit FILE N WORKERS`
use Rattle.std.specs.Prelude.{ℕ, List}
use Rattle.luo_answer.specs.Commands.Audit.{audit_program}
use Rattle.luo_answer.specs.Step.{Step, ◌and_then◌}
use Rattle.luo_answer.specs.Told.{Told}
use Rattle.luo_top.specs.Steps.{file_program}

-- the report of the program for the sizes up to n, found again by so many workers
abbrev pub audit : List ℕ → ℕ → ℕ → Told → Step (List ℕ)
audit file n w told = file_program file told and_then audit_program n w
