use Rattle.luo_founded.proofs.Tabled.{total_exists}
use Rattle.luo_founded.proofs.laws.each_has_total.Goals as goal

pub returns : goal.returns
returns c = total_exists
