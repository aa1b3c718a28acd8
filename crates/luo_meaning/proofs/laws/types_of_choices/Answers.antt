use Rattle.luo_meaning.proofs.BrokenFacts.{types_of_choices}
use Rattle.luo_meaning.proofs.laws.types_of_choices.Goals as goal

pub returns : goal.returns
returns c = types_of_choices
