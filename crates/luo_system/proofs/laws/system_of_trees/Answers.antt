use Rattle.luo_system.proofs.laws.system_of_trees.Goals as goal
use Rattle.luo_system.proofs.FactLemmas.{system-trees}

pub returns : goal.returns
returns c = system-trees
