use Rattle.luo_answer.proofs.StepLemmas.{go, stop}
use Rattle.luo_answer.proofs.commands.analyse.analyse_founded.Goals as goal

pub returns-in_err-size : goal.returns-in_err-size
returns-in_err-size c = λ n e. stop _ (c.in_err-size.ensures.passes n e) c.from_residual.ensures.1

pub returns-in_err-engine : goal.returns-in_err-engine
returns-in_err-engine c = λ n e. go _ (c.in_ok-size.ensures.passes n e) (stop _ c.in_err-engine.ensures.passes c.from_residual-in_err-engine.ensures.1)

pub returns : goal.returns
returns c = λ n e. go _ (c.in_ok-size.ensures.passes n e) (go _ c.in_ok-engine.ensures.passes c.analysed-text.ensures)
