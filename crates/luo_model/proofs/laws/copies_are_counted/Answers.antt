use Rattle.luo_model.proofs.CountFacts.{copies_are_counted}
use Rattle.luo_model.proofs.laws.copies_are_counted.Goals as goal

pub returns : goal.returns
returns c = copies_are_counted
