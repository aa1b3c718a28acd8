use Rattle.luo_model.proofs.SiteLemmas.{wholes_charge}
use Rattle.luo_model.proofs.laws.wholes_charge.Goals as goal

pub returns : goal.returns
returns c = wholes_charge
