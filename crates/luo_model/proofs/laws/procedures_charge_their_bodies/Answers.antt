use Rattle.luo_model.proofs.SiteLemmas.{procedures_charge_their_bodies}
use Rattle.luo_model.proofs.laws.procedures_charge_their_bodies.Goals as goal

pub returns : goal.returns
returns c = procedures_charge_their_bodies
