use Rattle.luo_founded.proofs.FactLemmas.{other_factors_end_there}
use Rattle.luo_founded.proofs.laws.other_factors_end_there.Goals as goal

pub returns : goal.returns
returns c = other_factors_end_there
