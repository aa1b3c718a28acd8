use Rattle.luo_system.proofs.laws.holding_tables_are_right.Goals as goal
use Rattle.luo_system.proofs.Truth.{holding-tables_right}

pub returns : goal.returns
returns c = holding-tables_right
