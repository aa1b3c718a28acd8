use Rattle.luo_counting.proofs.Binomials.{repeats_binomial}
use Rattle.luo_counting.proofs.laws.repeats_are_binomial.Goals as goal

pub returns : goal.returns
returns c = repeats_binomial
