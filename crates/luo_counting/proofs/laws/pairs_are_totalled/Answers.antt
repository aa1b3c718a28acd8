use Rattle.luo_counting.proofs.NumberedPairs.{pairs_totalled}
use Rattle.luo_counting.proofs.laws.pairs_are_totalled.Goals as goal

pub returns : goal.returns
returns c = pairs_totalled
