use Rattle.luo_system.proofs.laws.permutations_give.Goals as goal
use Rattle.luo_system.proofs.EvaluatedLemmas.{permutations-give}

pub returns : goal.returns
returns c = permutations-give
