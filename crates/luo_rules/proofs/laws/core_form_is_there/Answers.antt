use Rattle.std.proofs.Common.{refl}
use Rattle.luo_rules.specs.Whole.{core}
use Rattle.luo_rules.proofs.laws.core_form_is_there.Goals as goal

pub returns : goal.returns
returns c = λ source none. (core source, (none, refl))
