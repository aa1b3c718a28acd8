use Rattle.std.proofs.Common.{arith, ◌<◌}
use Rattle.luo_num.proofs.CommonDivisors.{divisor_some}
use Rattle.luo_fraction.proofs.AverageLemmas.{reduced}
use Rattle.luo_fraction.proofs.average.Goals as goal

pub nonzero_div-result : goal.nonzero_div-result
nonzero_div-result c = divisor_some c.args.total c.args.count _ (omega (arith, c.if-count-eq0.false)) c.gcd-divisor.ensures

pub nonzero_div-result-2 : goal.nonzero_div-result-2
nonzero_div-result-2 c = divisor_some c.args.total c.args.count _ (omega (arith, c.if-count-eq0.false)) c.gcd-divisor.ensures

pub returns : goal.returns
returns c =
    let some : 0 < c.args.count = omega (arith, c.if-count-eq0.false) in
    (some, reduced c.args.total c.args.count _ some c.gcd-divisor.ensures)
