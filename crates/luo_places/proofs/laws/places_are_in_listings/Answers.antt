use Rattle.luo_places.proofs.laws.places_are_in_listings.Goals as goal
use Rattle.luo_model.specs.Order.{IsBefore}
use Rattle.luo_model.specs.Structures.{IsStructure}
use Rattle.luo_counting.proofs.Orders.{trees_ordered}
use Rattle.luo_finite.proofs.OrderedPlaces.{listed_at, at_listed}

pub returns : goal.returns
returns c = λ p x n l r s h. (
  (λ m. at_listed (IsStructure p x n) IsBefore trees_ordered.one_way l r s h.0 h.1 m),
  λ e. listed_at (IsStructure p x n) IsBefore trees_ordered.one_way l r s h.0 h.1 e,
)
