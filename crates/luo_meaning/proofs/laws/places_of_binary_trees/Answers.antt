use Rattle.luo_meaning.proofs.OrderFacts.{places_of_binary_trees}
use Rattle.luo_meaning.proofs.laws.places_of_binary_trees.Goals as goal

pub returns : goal.returns
returns c = places_of_binary_trees
