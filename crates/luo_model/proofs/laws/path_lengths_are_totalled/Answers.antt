use Rattle.luo_model.proofs.TotalFacts.{path_lengths_are_totalled}
use Rattle.luo_model.proofs.laws.path_lengths_are_totalled.Goals as goal

pub returns : goal.returns
returns c = path_lengths_are_totalled
