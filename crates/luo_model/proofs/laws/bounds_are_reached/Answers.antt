use Rattle.luo_model.proofs.MemberFacts.{bounds_are_reached}
use Rattle.luo_model.proofs.laws.bounds_are_reached.Goals as goal

pub returns : goal.returns
returns c = bounds_are_reached
