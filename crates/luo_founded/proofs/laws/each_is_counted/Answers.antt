use Rattle.luo_founded.proofs.Tabled.{count_exists}
use Rattle.luo_founded.proofs.laws.each_is_counted.Goals as goal

pub returns : goal.returns
returns c = count_exists
