use Rattle.luo_model.proofs.SiteLemmas.{charges_are_least}
use Rattle.luo_model.proofs.laws.charges_are_least.Goals as goal

pub returns : goal.returns
returns c = charges_are_least
