use Rattle.luo_finite.proofs.Ranges.{sum_below-swap}
use Rattle.luo_finite.proofs.laws.sums_change_places.Goals as goal

pub returns : goal.returns
returns c = sum_below-swap
