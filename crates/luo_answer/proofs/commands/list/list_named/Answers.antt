use Rattle.luo_answer.proofs.StepLemmas.{go, stop}
use Rattle.luo_answer.proofs.commands.list.list_named.Goals as goal

pub returns-in_err-ranks : goal.returns-in_err-ranks
returns-in_err-ranks c = λ n s k e f d. stop _ c.in_err-ranks.ensures.passes c.from_residual.ensures.1

pub returns-in_err-node : goal.returns-in_err-node
returns-in_err-node c = λ n s k e f d. go _ c.in_ok-ranks.ensures.passes (stop _ c.in_err-node.ensures.passes c.from_residual-in_err-node.ensures.1)

pub returns : goal.returns
returns c = λ n s k e f d. go _ c.in_ok-ranks.ensures.passes (go _ c.in_ok-node.ensures.passes (c.list_node.ensures n s k e f d))
