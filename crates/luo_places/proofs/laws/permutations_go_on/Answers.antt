use Rattle.luo_places.proofs.steps.FactLemmas.{permutations_go_on}
use Rattle.luo_places.proofs.laws.permutations_go_on.Goals as goal

pub returns : goal.returns
returns c = permutations_go_on
