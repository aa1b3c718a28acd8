use Rattle.std.proofs.Common.{refl}
use Rattle.luo_rules.proofs.laws.cores_are_the_programs.Goals as goal

pub returns : goal.returns
returns c = ((refl, refl), (refl, refl), (refl, refl), (refl, refl), (refl, refl), (refl, refl), (refl, refl), (refl, refl))
