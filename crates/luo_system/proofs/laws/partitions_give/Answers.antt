use Rattle.luo_system.proofs.laws.partitions_give.Goals as goal
use Rattle.luo_system.proofs.EvaluatedLemmas.{partitions-give}

pub returns : goal.returns
returns c = partitions-give
