use Rattle.luo_counting.proofs.Binomials.{rows_binomial}
use Rattle.luo_counting.proofs.laws.rows_are_binomial.Goals as goal

pub returns : goal.returns
returns c = rows_binomial
