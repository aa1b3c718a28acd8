use Rattle.luo_rules.proofs.BrokenFirst.{first_broken_is_first_breach}
use Rattle.luo_rules.proofs.laws.first_broken_is_first_breach.Goals as goal

pub returns : goal.returns
returns c = first_broken_is_first_breach
