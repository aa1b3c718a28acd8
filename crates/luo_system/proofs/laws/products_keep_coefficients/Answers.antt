use Rattle.luo_system.proofs.laws.products_keep_coefficients.Goals as goal
use Rattle.luo_system.proofs.PlainLaws.{coef-product}

pub returns : goal.returns
returns c = coef-product
