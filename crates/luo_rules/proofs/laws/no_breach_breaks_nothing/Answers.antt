use Rattle.luo_rules.proofs.BrokenFirst.{no_breach_breaks_nothing}
use Rattle.luo_rules.proofs.laws.no_breach_breaks_nothing.Goals as goal

pub returns : goal.returns
returns c = no_breach_breaks_nothing
