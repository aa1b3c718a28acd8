use Rattle.luo_system.proofs.laws.right_tables_have_rows.Goals as goal
use Rattle.luo_system.proofs.Truth.{right-tables_rows}

pub returns : goal.returns
returns c = right-tables_rows
