use Rattle.luo_system.proofs.laws.sums_keep_coefficients.Goals as goal
use Rattle.luo_system.proofs.PlainLaws.{coef-sum}

pub returns : goal.returns
returns c = coef-sum
