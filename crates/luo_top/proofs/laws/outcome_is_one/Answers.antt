use Rattle.luo_top.proofs.WrittenOutcome.{written_single}
use Rattle.luo_top.proofs.laws.outcome_is_one.Goals as goal

pub returns : goal.returns
returns c = written_single
