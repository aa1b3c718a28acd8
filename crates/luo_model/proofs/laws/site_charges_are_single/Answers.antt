use Rattle.luo_model.proofs.SiteLemmas.{site_charges_are_single}
use Rattle.luo_model.proofs.laws.site_charges_are_single.Goals as goal

pub returns : goal.returns
returns c = site_charges_are_single
