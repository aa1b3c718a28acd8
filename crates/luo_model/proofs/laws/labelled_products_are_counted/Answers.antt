use Rattle.luo_model.proofs.CountFacts.{labelled_products_are_counted}
use Rattle.luo_model.proofs.laws.labelled_products_are_counted.Goals as goal

pub returns : goal.returns
returns c = labelled_products_are_counted
