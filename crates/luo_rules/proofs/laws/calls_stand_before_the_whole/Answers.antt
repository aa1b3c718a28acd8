use Rattle.std.proofs.Common.{refl}
use Rattle.luo_rules.proofs.laws.calls_stand_before_the_whole.Goals as goal

pub returns : goal.returns
returns c = (refl, refl, refl)
