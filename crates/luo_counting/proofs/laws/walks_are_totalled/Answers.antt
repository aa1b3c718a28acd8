use Rattle.luo_counting.proofs.TreeCharges.{walks_totalled}
use Rattle.luo_counting.proofs.laws.walks_are_totalled.Goals as goal

pub returns : goal.returns
returns c = walks_totalled
