use Rattle.luo_engine.proofs.FirstOver.{none_or_first}
use Rattle.luo_engine.proofs.laws.first_overflow_or_none.Goals as goal

pub returns : goal.returns
returns c = none_or_first
