use Rattle.luo_recipes.proofs.CountLemmas.{number, obeys}
use Rattle.luo_recipes.proofs.laws.counts_obey.Goals as goal

pub returns : goal.returns
returns c p q f = (number p q f, obeys p q f)
