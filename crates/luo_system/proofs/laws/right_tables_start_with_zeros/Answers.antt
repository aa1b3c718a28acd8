use Rattle.luo_system.proofs.laws.right_tables_start_with_zeros.Goals as goal
use Rattle.luo_system.proofs.Truth.{right-tables_start}

pub returns : goal.returns
returns c = right-tables_start
