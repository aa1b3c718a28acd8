use Rattle.luo_interp.proofs.MakeLaws.{each_makes_one}
use Rattle.luo_interp.proofs.laws.each_makes_one.Goals as goal

pub returns : goal.returns
returns c = each_makes_one
