use Rattle.luo_model.proofs.OrderFacts.{partitions_in_order}
use Rattle.luo_model.proofs.laws.partitions_in_order.Goals as goal

pub returns : goal.returns
returns c = partitions_in_order
