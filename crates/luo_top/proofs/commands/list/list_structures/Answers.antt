use Rattle.luo_answer.proofs.StepLemmas.{go_over, stop_over}
use Rattle.luo_top.proofs.commands.list.list_structures.Goals as goal

pub returns-in_err-program : goal.returns-in_err-program
returns-in_err-program g c = λ n s k e f d. stop_over _ c.in_err-program.ensures c.from_residual.ensures.1

pub returns : goal.returns
returns g c = λ n s k e f d. go_over _ c.in_ok-program.ensures (c.list_named.ensures n s k e f d)
