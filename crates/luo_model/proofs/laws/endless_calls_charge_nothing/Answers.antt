use Rattle.luo_model.proofs.ChargeFacts.{endless_calls_charge_nothing}
use Rattle.luo_model.proofs.laws.endless_calls_charge_nothing.Goals as goal

pub returns : goal.returns
returns c = endless_calls_charge_nothing
