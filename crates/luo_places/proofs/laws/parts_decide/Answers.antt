use Rattle.luo_places.proofs.steps.Tails.{product_stands, collection_stands}
use Rattle.luo_places.proofs.laws.parts_decide.Goals as goal

pub returns : goal.returns
returns c = λ p x n L room. (product_stands p x n L room, collection_stands p x n L room)
