use Rattle.luo_binom.proofs.BinomialLemmas.{binomials_step}
use Rattle.luo_binom.proofs.laws.binomials_step.Goals as goal

pub returns : goal.returns
returns c = binomials_step
