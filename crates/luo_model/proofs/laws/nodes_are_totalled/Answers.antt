use Rattle.luo_model.proofs.TotalFacts.{nodes_are_totalled}
use Rattle.luo_model.proofs.laws.nodes_are_totalled.Goals as goal

pub returns : goal.returns
returns c = nodes_are_totalled
