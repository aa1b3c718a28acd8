use Rattle.luo_counting.proofs.FactLemmas as facts
use Rattle.luo_counting.proofs.laws.distinct_partitions.Goals as goal

pub returns : goal.returns
returns c = facts.distinct_partitions
