use Rattle.luo_system.proofs.laws.right_tables_hold.Goals as goal
use Rattle.luo_system.proofs.Truth.{right-tables_hold}

pub returns : goal.returns
returns c = right-tables_hold
