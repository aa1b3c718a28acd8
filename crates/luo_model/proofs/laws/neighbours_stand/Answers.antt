use Rattle.luo_model.proofs.OrderLemmas.{neighbours_stand}
use Rattle.luo_model.proofs.laws.neighbours_stand.Goals as goal

pub returns : goal.returns
returns c = neighbours_stand
