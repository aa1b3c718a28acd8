-- The one answer to these words over what the source tells, where nothing outside fails.
use Rattle.std.specs.Prelude.{ℕ, List}
use Rattle.luo_answer.specs.Answer.{Answer}
use Rattle.luo_answer.specs.Step.{Step, ◌and_then◌, ends}
use Rattle.luo_answer.specs.Told.{Told}
use Rattle.luo_answer.specs.Words.{Command, Analyse, Format, Run, Sample, asked_by, Listing, Audit}
use Rattle.luo_top.specs.Commands.Analyse.{analyse}
use Rattle.luo_top.specs.Commands.Audit.{audit}
use Rattle.luo_top.specs.Commands.Format.{format}
use Rattle.luo_top.specs.Commands.List.{list}
use Rattle.luo_top.specs.Commands.Run.{run}
use Rattle.luo_top.specs.Commands.Sample.{sample}

-- the steps of a command
abbrev pub steps_of : Command → Told → Step (List ℕ)
steps_of (Analyse file n) told = analyse file n told
steps_of (Format file) told = format file told
steps_of (Run file procedure structure) told = run file procedure structure told
steps_of (Sample number n) told = sample number n
steps_of (Listing file name n start count) told = list file name n start count told
steps_of (Audit file n workers) told = audit file n workers told

-- in this order: what the words alone refuse, and the steps of their command
unfoldable pub Outcome : Told → List (List ℕ) → Answer → Type 0
Outcome told words = ends (asked_by words and_then λ command. steps_of command told)
