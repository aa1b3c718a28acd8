use Rattle.luo_answer.proofs.StepLemmas.{go, stop}
use Rattle.luo_top.proofs.commands.sample.text_program.Goals as goal

pub returns-in_err-tokens : goal.returns-in_err-tokens
returns-in_err-tokens c = stop _ c.in_err-tokens.ensures c.from_residual.ensures.1

pub returns-in_err-source : goal.returns-in_err-source
returns-in_err-source c = go _ c.in_ok-tokens.ensures (stop _ c.in_err-source.ensures c.from_residual-in_err-source.ensures.1)

pub returns : goal.returns
returns c = go _ c.in_ok-tokens.ensures (go _ c.in_ok-source.ensures c.core_of.ensures)
