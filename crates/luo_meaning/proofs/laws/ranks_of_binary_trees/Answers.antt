use Rattle.luo_meaning.proofs.OrderFacts.{ranks_of_binary_trees}
use Rattle.luo_meaning.proofs.laws.ranks_of_binary_trees.Goals as goal

pub returns : goal.returns
returns c = ranks_of_binary_trees
