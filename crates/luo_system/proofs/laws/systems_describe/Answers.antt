use Rattle.luo_system.proofs.laws.systems_describe.Goals as goal
use Rattle.luo_system.proofs.Truth.{systems-describe}

pub returns : goal.returns
returns c = systems-describe
