use Rattle.luo_founded.proofs.Charged.{one_site_charge}
use Rattle.luo_founded.proofs.laws.each_site_charges_once.Goals as goal

pub returns : goal.returns
returns c = λ p q f. one_site_charge p q f.no_endless
