use Rattle.luo_answer.proofs.StepLemmas.{go, stop, go_over, stop_over}
use Rattle.luo_top.proofs.steps.source.file_source.Goals as goal

pub returns-in_err-text : goal.returns-in_err-text
returns-in_err-text g c = stop_over _ c.in_err-text.ensures.passes c.from_residual.ensures.1

pub returns-in_err-tokens : goal.returns-in_err-tokens
returns-in_err-tokens g c = go_over _ c.in_ok-text.ensures.passes (stop _ c.in_err-tokens.ensures c.from_residual-in_err-tokens.ensures.1)

pub returns : goal.returns
returns g c = go_over _ c.in_ok-text.ensures.passes (go _ c.in_ok-tokens.ensures c.source_of.ensures)
