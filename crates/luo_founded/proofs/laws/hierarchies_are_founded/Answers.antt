use Rattle.luo_founded.proofs.FactLemmas.{hierarchies_are_founded}
use Rattle.luo_founded.proofs.laws.hierarchies_are_founded.Goals as goal

pub returns : goal.returns
returns c = hierarchies_are_founded
