use Rattle.luo_system.proofs.laws.system_of_rooted.Goals as goal
use Rattle.luo_system.proofs.FactLemmas.{system-rooted}

pub returns : goal.returns
returns c = system-rooted
