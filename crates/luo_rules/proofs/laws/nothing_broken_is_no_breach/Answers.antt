use Rattle.luo_rules.proofs.BrokenFirst.{nothing_broken_is_no_breach}
use Rattle.luo_rules.proofs.laws.nothing_broken_is_no_breach.Goals as goal

pub returns : goal.returns
returns c = nothing_broken_is_no_breach
