use Rattle.std.proofs.Common.{◌≡◌, ◌++◌, take}
use Rattle.luo_model.specs.View.{plain_of}
use Rattle.luo_answer.specs.Names.{procedure_name}
use Rattle.luo_answer.specs.FoundedRefusals.{chain_text}
use Rattle.luo_answer.proofs.steps.founding.put_procedures.Given as goal

abbrev pub invariant-loop-procedure : goal.invariant-loop-procedure
invariant-loop-procedure l = l.text.items ≡ l.initial.text.items ++ chain_text (procedure_name (plain_of l.program)) (take l.procedure-index l.chain)
