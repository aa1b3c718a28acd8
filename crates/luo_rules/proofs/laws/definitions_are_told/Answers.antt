use Rattle.std.proofs.Common.{refl}
use Rattle.luo_rules.proofs.laws.definitions_are_told.Goals as goal

pub returns : goal.returns
returns c = (refl, refl, refl, refl, refl, refl, refl, refl, refl, refl)
