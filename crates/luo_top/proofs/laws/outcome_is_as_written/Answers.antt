use Rattle.luo_top.proofs.OutcomeKept.{outcome_kept}
use Rattle.luo_top.proofs.laws.outcome_is_as_written.Goals as goal

pub returns : goal.returns
returns c = outcome_kept
