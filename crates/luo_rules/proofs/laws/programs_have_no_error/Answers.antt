use Rattle.luo_rules.proofs.Exclusive.{cause, checked-cause}
use Rattle.luo_rules.proofs.laws.programs_have_no_error.Goals as goal

pub returns : goal.returns
returns c = λ source p e is h. checked-cause source p is (cause source e h)
