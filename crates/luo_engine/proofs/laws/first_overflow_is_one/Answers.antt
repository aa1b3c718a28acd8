use Rattle.luo_engine.proofs.FirstOver.{first_over_is_one}
use Rattle.luo_engine.proofs.laws.first_overflow_is_one.Goals as goal

pub returns : goal.returns
returns c = first_over_is_one
