use Rattle.luo_model.proofs.CountFacts.{branches_are_counted_apart}
use Rattle.luo_model.proofs.laws.branches_are_counted_apart.Goals as goal

pub returns : goal.returns
returns c = branches_are_counted_apart
