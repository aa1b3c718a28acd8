use Rattle.luo_answer.proofs.StepLemmas.{go_over, stop_over}
use Rattle.luo_top.proofs.commands.audit.audit_file.Goals as goal

pub returns-in_err-program : goal.returns-in_err-program
returns-in_err-program g c = λ n w e d. stop_over _ c.in_err-program.ensures c.from_residual.ensures.1

pub returns : goal.returns
returns g c = λ n w e d. go_over _ c.in_ok-program.ensures (c.audit_program.ensures n w e d)
