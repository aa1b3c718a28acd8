-- What marks keep: numbers that overflow may be marked at each step.
use Rattle.std.proofs.Common.{arith}
use Rattle.std.proofs.lemmas.Grind.{common_steps}
use Rattle.luo_num.specs.Laws.{CappedSum, CappedProduct, CappedSmall, CappedPast}

pub capped-add : CappedSum
capped-add a b = omega arith

pub capped-mul : CappedProduct
capped-mul a b = grind (arith, common_steps)

pub capped-small : CappedSmall
capped-small n small = omega arith

pub capped-past : CappedPast
capped-past n = (λ past. omega arith, λ past. omega arith)
