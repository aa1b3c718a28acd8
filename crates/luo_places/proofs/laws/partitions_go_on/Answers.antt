use Rattle.luo_places.proofs.steps.FactLemmas.{partitions_go_on}
use Rattle.luo_places.proofs.laws.partitions_go_on.Goals as goal

pub returns : goal.returns
returns c = partitions_go_on
