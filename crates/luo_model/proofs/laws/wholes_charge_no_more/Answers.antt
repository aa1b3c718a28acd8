use Rattle.luo_model.proofs.SiteLemmas.{wholes_charge_no_more}
use Rattle.luo_model.proofs.laws.wholes_charge_no_more.Goals as goal

pub returns : goal.returns
returns c = wholes_charge_no_more
