use Rattle.luo_system.proofs.laws.pairs_hold_from_one.Goals as goal
use Rattle.luo_system.proofs.StartLemmas.{pairs-hold}

pub returns : goal.returns
returns c = pairs-hold
