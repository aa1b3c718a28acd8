use Rattle.luo_rules.proofs.BrokenFirst.{broken_is_listed}
use Rattle.luo_rules.proofs.laws.broken_is_listed.Goals as goal

pub returns : goal.returns
returns c = broken_is_listed
