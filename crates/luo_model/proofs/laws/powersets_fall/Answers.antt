use Rattle.luo_model.proofs.MemberFacts.{powersets_fall}
use Rattle.luo_model.proofs.laws.powersets_fall.Goals as goal

pub returns : goal.returns
returns c = powersets_fall
