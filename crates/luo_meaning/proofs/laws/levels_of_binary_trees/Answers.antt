use Rattle.luo_meaning.proofs.OrderFacts.{levels_of_binary_trees}
use Rattle.luo_meaning.proofs.laws.levels_of_binary_trees.Goals as goal

pub returns : goal.returns
returns c = levels_of_binary_trees
