-- The one answer to these words over what the source tells, by what programs mean as they are
-- written.
use Rattle.std.specs.Prelude.{ℕ, List}
use Rattle.luo_answer.specs.Answer.{Answer}
use Rattle.luo_answer.specs.Step.{Step, ◌and_then◌, ends}
use Rattle.luo_answer.specs.Told.{Told}
use Rattle.luo_answer.specs.Words.{Command, Analyse, Format, Run, Sample, asked_by, Listing, Audit}
use Rattle.luo_top.specs.AsWritten.Audit.{audit_source}
use Rattle.luo_top.specs.AsWritten.List.{list_source}
use Rattle.luo_top.specs.AsWritten.Run.{run_source}
use Rattle.luo_top.specs.AsWritten.Sample.{sample_source}
use Rattle.luo_top.specs.AsWritten.Steps.{analyse_source}
use Rattle.luo_top.specs.Commands.Format.{format}

-- the steps of a command
abbrev pub steps_as_written : Command → Told → Step (List ℕ)
steps_as_written (Analyse file n) told = analyse_source file n told
steps_as_written (Format file) told = format file told
steps_as_written (Run file procedure structure) told = run_source file procedure structure told
steps_as_written (Sample number n) told = sample_source number n
steps_as_written (Listing file name n start count) told = list_source file name n start count told
steps_as_written (Audit file n workers) told = audit_source file n workers told

-- in this order: what the words alone refuse, and the steps of their command
unfoldable pub OutcomeAsWritten : Told → List (List ℕ) → Answer → Type 0
OutcomeAsWritten told words =
    ends (asked_by words and_then λ command. steps_as_written command told)
