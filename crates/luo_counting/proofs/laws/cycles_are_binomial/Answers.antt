use Rattle.luo_counting.proofs.Binomials.{cycles_binomial}
use Rattle.luo_counting.proofs.laws.cycles_are_binomial.Goals as goal

pub returns : goal.returns
returns c = cycles_binomial
