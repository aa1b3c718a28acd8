use Rattle.luo_finite.proofs.Ranges.{Counts-below}
use Rattle.luo_finite.proofs.laws.count_of_below.Goals as goal

pub returns : goal.returns
returns c = Counts-below
