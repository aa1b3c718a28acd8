use Rattle.luo_finite.proofs.OrderedPlaces.{Place-one, one_at}
use Rattle.luo_model.specs.Order.{IsBefore}
use Rattle.luo_model.specs.Structures.{IsStructure}
use Rattle.luo_counting.proofs.Orders.{trees_ordered}
use Rattle.luo_rank.proofs.laws.places_are_inverse.Goals as goal

pub returns : goal.returns
returns c = λ p x n r s m. (
  (λ q k. Place-one (IsStructure p x n) IsBefore q r s k m),
  λ t k. one_at (IsStructure p x n) IsBefore r t s (λ z h. trees_ordered.one_way z z h h) trees_ordered.through trees_ordered.either k m,
)
