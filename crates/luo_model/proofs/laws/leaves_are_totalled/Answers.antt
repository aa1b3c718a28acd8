use Rattle.luo_model.proofs.TotalFacts.{leaves_are_totalled}
use Rattle.luo_model.proofs.laws.leaves_are_totalled.Goals as goal

pub returns : goal.returns
returns c = leaves_are_totalled
