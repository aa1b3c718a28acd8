use Rattle.luo_model.proofs.OrderFacts.{permutations_in_order}
use Rattle.luo_model.proofs.laws.permutations_in_order.Goals as goal

pub returns : goal.returns
returns c = permutations_in_order
