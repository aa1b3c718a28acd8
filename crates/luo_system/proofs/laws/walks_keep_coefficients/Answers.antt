use Rattle.luo_system.proofs.laws.walks_keep_coefficients.Goals as goal
use Rattle.luo_system.proofs.PlainLaws.{coef-walk}

pub returns : goal.returns
returns c = coef-walk
