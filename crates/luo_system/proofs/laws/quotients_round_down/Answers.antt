use Rattle.luo_system.proofs.laws.quotients_round_down.Goals as goal
use Rattle.luo_system.proofs.QuotientLemmas.{quotients-down}

pub returns : goal.returns
returns c = quotients-down
