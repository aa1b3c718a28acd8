use Rattle.luo_system.proofs.laws.right_tables_exist.Goals as goal
use Rattle.luo_system.proofs.Truth.{right-tables_exist}

pub returns : goal.returns
returns c = right-tables_exist
