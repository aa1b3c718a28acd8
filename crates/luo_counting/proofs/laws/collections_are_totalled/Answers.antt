use Rattle.luo_counting.proofs.Numbered.{collections_totalled}
use Rattle.luo_counting.proofs.laws.collections_are_totalled.Goals as goal

pub returns : goal.returns
returns c = collections_totalled
