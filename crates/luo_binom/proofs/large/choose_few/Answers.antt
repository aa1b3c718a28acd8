use Rattle.std.proofs.Common.{◌+◌, arith}
use Rattle.luo_binom.proofs.BinomialLemmas.{few_rise}
use Rattle.luo_binom.proofs.large.choose_few.Goals as goal

pub returns-in-None : goal.returns-in-None
returns-in-None c = λ h. c.in-None.ensures (omega (arith, h, few_rise c.args.a (c.loop-i.i + 1) c.args.k (omega (arith, c.loop-i-test.true)) c.requires.half))
