use Rattle.luo_model.proofs.MemberFacts.{sets_rise}
use Rattle.luo_model.proofs.laws.sets_rise.Goals as goal

pub returns : goal.returns
returns c = sets_rise
