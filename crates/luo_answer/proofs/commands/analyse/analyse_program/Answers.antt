use Rattle.luo_answer.proofs.StepLemmas.{go, stop}
use Rattle.luo_answer.proofs.commands.analyse.analyse_program.Goals as goal

pub returns-in_err-ranks : goal.returns-in_err-ranks
returns-in_err-ranks c = λ n e. stop _ c.in_err-ranks.ensures.passes c.from_residual.ensures.1

pub returns : goal.returns
returns c = λ n e. go _ c.in_ok-ranks.ensures.passes (c.analyse_founded.ensures n e)
