use Rattle.luo_model.proofs.TotalFacts.{rows_sum_charges}
use Rattle.luo_model.proofs.laws.rows_sum_charges.Goals as goal

pub returns : goal.returns
returns c = rows_sum_charges
