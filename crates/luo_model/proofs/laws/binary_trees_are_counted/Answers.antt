use Rattle.luo_model.proofs.CountFacts.{binary_trees_are_counted}
use Rattle.luo_model.proofs.laws.binary_trees_are_counted.Goals as goal

pub returns : goal.returns
returns c = binary_trees_are_counted
