-- What a run answers.
use Rattle.std.specs.Prelude.{ℕ, List}
use Rattle.luo_answer.specs.declared.status.Status.{Status}

-- an output for standard output; a refusal with its status and its line for standard error; or that
-- nothing is told, where the source doesn't tell a file that the answer rests on
pub data Answer : Type 0 where
  Output : List ℕ → Answer
  Refusal : Status → List ℕ → Answer
  Untold : Answer
