use Rattle.luo_rules.proofs.Rise.Source as rise
use Rattle.luo_rules.proofs.laws.breaches_are_single.Goals as goal

pub returns : goal.returns
returns c = rise.breaches_are_single
