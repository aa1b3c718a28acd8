use Rattle.luo_founded.proofs.FactLemmas.{endless_products_are_named}
use Rattle.luo_founded.proofs.laws.endless_products_are_named.Goals as goal

pub returns : goal.returns
returns c = endless_products_are_named
