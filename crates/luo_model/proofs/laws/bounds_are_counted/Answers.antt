use Rattle.luo_model.proofs.CountFacts.{bounds_are_counted}
use Rattle.luo_model.proofs.laws.bounds_are_counted.Goals as goal

pub returns : goal.returns
returns c = bounds_are_counted
