use Rattle.luo_model.proofs.CountFacts.{partitions_are_counted}
use Rattle.luo_model.proofs.laws.partitions_are_counted.Goals as goal

pub returns : goal.returns
returns c = partitions_are_counted
