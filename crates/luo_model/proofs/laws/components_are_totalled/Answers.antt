use Rattle.luo_model.proofs.TotalFacts.{components_are_totalled}
use Rattle.luo_model.proofs.laws.components_are_totalled.Goals as goal

pub returns : goal.returns
returns c = components_are_totalled
