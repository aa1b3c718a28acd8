use Rattle.luo_model.proofs.ChargeFacts.{copies_are_charged_each}
use Rattle.luo_model.proofs.laws.copies_are_charged_each.Goals as goal

pub returns : goal.returns
returns c = copies_are_charged_each
