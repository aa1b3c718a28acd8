use Rattle.luo_system.proofs.laws.starts_are_needed.Goals as goal
use Rattle.luo_system.proofs.StartLemmas.{starts-needed}

pub returns : goal.returns
returns c = starts-needed
