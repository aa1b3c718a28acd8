use Rattle.luo_counting.proofs.Numbered.{collections_counted}
use Rattle.luo_counting.proofs.laws.collections_are_counted.Goals as goal

pub returns : goal.returns
returns c = collections_counted
