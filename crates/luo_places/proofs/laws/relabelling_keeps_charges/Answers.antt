use Rattle.luo_places.proofs.relabelling.Relabelled.{charges_sent, site_sent}
use Rattle.luo_places.proofs.laws.relabelling_keeps_charges.Goals as goal

pub returns : goal.returns
returns c = (charges_sent, site_sent)
