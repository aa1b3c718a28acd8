use Rattle.luo_rules.proofs.Rise.Source as rise
use Rattle.luo_rules.proofs.laws.breaches_rise.Goals as goal

pub returns : goal.returns
returns c = rise.breaches_rise
