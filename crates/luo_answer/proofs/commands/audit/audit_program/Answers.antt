use Rattle.luo_answer.proofs.StepLemmas.{go, stop}
use Rattle.luo_answer.proofs.commands.audit.audit_program.Goals as goal

pub returns-in_err-ranks : goal.returns-in_err-ranks
returns-in_err-ranks g c = λ n w e d. stop _ c.in_err-ranks.ensures.passes c.from_residual.ensures.1

pub returns : goal.returns
returns g c = λ n w e d. go _ c.in_ok-ranks.ensures.passes (c.audit_of.ensures n w e d)
