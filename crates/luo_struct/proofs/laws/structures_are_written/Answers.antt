use Rattle.luo_struct.proofs.laws.structures_are_written.Goals as goal
use Rattle.luo_struct.proofs.FactLemmas.{structures-written}

pub returns : goal.returns
returns c = structures-written
