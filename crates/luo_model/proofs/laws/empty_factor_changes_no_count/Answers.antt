use Rattle.luo_model.proofs.CountFacts.{empty_factor_changes_no_count}
use Rattle.luo_model.proofs.laws.empty_factor_changes_no_count.Goals as goal

pub returns : goal.returns
returns c = empty_factor_changes_no_count
