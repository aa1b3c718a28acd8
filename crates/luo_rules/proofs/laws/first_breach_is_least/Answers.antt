use Rattle.luo_rules.proofs.Rise.Source as rise
use Rattle.luo_rules.proofs.laws.first_breach_is_least.Goals as goal

pub returns : goal.returns
returns c = rise.first_breach_is_least
