use Rattle.std.proofs.Common.{sym, subst}
use Rattle.luo_model.specs.View.{plain_of}
use Rattle.luo_answer.specs.Commands.List.{IsListText}
use Rattle.luo_answer.proofs.StepLemmas.{made, starved}
use Rattle.luo_answer.proofs.commands.list.listed.Goals as goal

pub returns-in_err-text : goal.returns-in_err-text
returns-in_err-text c = λ s e. starved c.from_residual.ensures.1

pub returns : goal.returns
returns c = λ s e. made _ _ (subst (IsListText (plain_of c.args.ranks.now) c.args.node c.args.size s c.args.most) (sym c.from_vec.ensures) (c.in_ok-text.ensures s e))
