use Rattle.luo_answer.proofs.StepLemmas.{go, stop}
use Rattle.luo_answer.proofs.commands.sample.sample_of.Goals as goal

pub returns-in_err-ranks : goal.returns-in_err-ranks
returns-in_err-ranks c = stop _ c.in_err-ranks.ensures.passes c.from_residual.ensures.1

pub returns-in_err-engine : goal.returns-in_err-engine
returns-in_err-engine c = go _ c.in_ok-ranks.ensures.passes (stop _ c.in_err-engine.ensures.passes c.from_residual-in_err-engine.ensures.1)

pub returns : goal.returns
returns c = go _ c.in_ok-ranks.ensures.passes (go _ c.in_ok-engine.ensures.passes c.summed-text.ensures)
