use Rattle.luo_model.proofs.TotalFacts.{inner_sites_are_totalled}
use Rattle.luo_model.proofs.laws.inner_sites_are_totalled.Goals as goal

pub returns : goal.returns
returns c = inner_sites_are_totalled
