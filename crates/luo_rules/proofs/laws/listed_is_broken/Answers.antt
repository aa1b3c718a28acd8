use Rattle.luo_rules.proofs.BrokenFirst.{listed_is_broken}
use Rattle.luo_rules.proofs.laws.listed_is_broken.Goals as goal

pub returns : goal.returns
returns c = listed_is_broken
