use Rattle.luo_system.proofs.laws.system_of_collections.Goals as goal
use Rattle.luo_system.proofs.EvaluatedLemmas.{system-collections}

pub returns : goal.returns
returns c = system-collections
