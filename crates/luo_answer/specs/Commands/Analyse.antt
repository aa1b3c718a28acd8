-- `analyse FILE N` from the program on.
use Rattle.std.specs.Prelude.{ℕ, List}
use Rattle.luo_model.specs.declared.table.Fill.TheVariants.{All}
use Rattle.luo_model.specs.Program.{Program}
use Rattle.luo_answer.specs.Report.{IsReport}
use Rattle.luo_answer.specs.Step.{Step, ◌and_then◌, makes}
use Rattle.luo_answer.specs.Steps.{founded, sized, tables}

-- the universe, the equations and the tables
abbrev pub report : Program → ℕ → Step (List ℕ)
report p n = makes (IsReport p n)

-- from the size on
abbrev pub analyse_founded : Program → ℕ → Step (List ℕ)
analyse_founded p n = sized n and_then λ size. tables All p size and_then λ _. report p size

-- from the program on
abbrev pub analyse_program : ℕ → Program → Step (List ℕ)
analyse_program n p = founded p and_then λ _. analyse_founded p n
