use Rattle.luo_system.proofs.laws.distinct_partitions_give.Goals as goal
use Rattle.luo_system.proofs.EvaluatedLemmas.{distinct-give}

pub returns : goal.returns
returns c = distinct-give
