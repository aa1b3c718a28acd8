use Rattle.luo_top.proofs.WrittenOutcome.{written_comes}
use Rattle.luo_top.proofs.laws.outcome_comes.Goals as goal

pub returns : goal.returns
returns c = written_comes
