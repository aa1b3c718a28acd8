use Rattle.luo_counting.proofs.Binomials.{sets_binomial}
use Rattle.luo_counting.proofs.laws.sets_are_binomial.Goals as goal

pub returns : goal.returns
returns c = sets_binomial
