use Rattle.luo_model.proofs.ChargeFacts.{cases_take_their_arm}
use Rattle.luo_model.proofs.laws.cases_take_their_arm.Goals as goal

pub returns : goal.returns
returns c = cases_take_their_arm
