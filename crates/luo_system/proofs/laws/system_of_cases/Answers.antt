use Rattle.luo_system.proofs.laws.system_of_cases.Goals as goal
use Rattle.luo_system.proofs.FactLemmas.{system-cases}

pub returns : goal.returns
returns c = system-cases
