use Rattle.luo_system.proofs.laws.systems_have_tables.Goals as goal
use Rattle.luo_system.proofs.Truth.{systems-tables}

pub returns : goal.returns
returns c = systems-tables
