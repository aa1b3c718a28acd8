use Rattle.luo_rules.proofs.BrokenFirst.{first_breach_is_first_broken}
use Rattle.luo_rules.proofs.laws.first_breach_is_first_broken.Goals as goal

pub returns : goal.returns
returns c = first_breach_is_first_broken
