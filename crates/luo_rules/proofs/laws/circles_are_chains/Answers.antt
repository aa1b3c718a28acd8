use Rattle.luo_rules.proofs.CircleFacts.{circle_is, is_circle}
use Rattle.luo_rules.proofs.laws.circles_are_chains.Goals as goal

pub returns : goal.returns
returns c = λ names defs i chain. (circle_is names defs i chain, is_circle names defs i chain)
