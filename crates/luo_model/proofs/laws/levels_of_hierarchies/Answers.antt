use Rattle.luo_model.proofs.laws.levels_of_hierarchies.Goals as goal
use Rattle.luo_model.proofs.LevelFacts.{levels-hierarchies}

pub returns : goal.returns
returns c = levels-hierarchies
