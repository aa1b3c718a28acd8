use Rattle.luo_recipes.proofs.CountLemmas.{number, obeys}
use Rattle.luo_recipes.proofs.TotalLemmas.{total, total_is}
use Rattle.luo_recipes.proofs.RecipeLemmas.{equation}
use Rattle.luo_recipes.proofs.laws.totals_have_recipes.Goals as goal

pub returns : goal.returns
returns c p q f = (number p q f, total p q f, record { counted = obeys p q f; totalled = total_is p q f; recipes = equation p q f })
