use Rattle.luo_model.proofs.SiteLemmas.{charges_are_single}
use Rattle.luo_model.proofs.laws.charges_are_single.Goals as goal

pub returns : goal.returns
returns c = charges_are_single
