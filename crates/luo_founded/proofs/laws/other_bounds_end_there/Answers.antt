use Rattle.luo_founded.proofs.FactLemmas.{other_bounds_end_there}
use Rattle.luo_founded.proofs.laws.other_bounds_end_there.Goals as goal

pub returns : goal.returns
returns c = other_bounds_end_there
