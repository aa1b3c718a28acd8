use Rattle.luo_meaning.proofs.OrderFacts.{order_of_binary_trees}
use Rattle.luo_meaning.proofs.laws.order_of_binary_trees.Goals as goal

pub returns : goal.returns
returns c = order_of_binary_trees
