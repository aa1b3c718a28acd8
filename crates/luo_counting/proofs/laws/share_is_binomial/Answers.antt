use Rattle.luo_counting.proofs.Two.{share-is_binomial}
use Rattle.luo_counting.proofs.laws.share_is_binomial.Goals as goal

pub returns : goal.returns
returns c = share-is_binomial
