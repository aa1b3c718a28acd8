use Rattle.luo_founded.proofs.FactLemmas.{empty_components_are_named}
use Rattle.luo_founded.proofs.laws.empty_components_are_named.Goals as goal

pub returns : goal.returns
returns c = empty_components_are_named
