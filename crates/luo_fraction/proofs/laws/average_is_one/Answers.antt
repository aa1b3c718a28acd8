use Rattle.luo_fraction.proofs.AverageLemmas.{average-is_one}
use Rattle.luo_fraction.proofs.laws.average_is_one.Goals as goal

pub returns : goal.returns
returns c = average-is_one
