use Rattle.luo_model.specs.Order.{IsBefore}
use Rattle.luo_model.specs.Structures.{IsStructure}
use Rattle.luo_finite.proofs.Sums.{Counts-to}
use Rattle.luo_finite.proofs.OrderedPlaces.{Place-one, one_at}
use Rattle.luo_finite.proofs.PlacesExist.{place_below, some_place}
use Rattle.luo_counting.proofs.Orders.{trees_ordered}
use Rattle.luo_places.proofs.laws.places_are_single.Goals as goal

pub returns : goal.returns
returns c = λ p x n. (
  (λ r q s m k. Place-one (IsStructure p x n) IsBefore r q s m k),
  (λ r s t m k. one_at (IsStructure p x n) IsBefore r s t (λ z h. trees_ordered.one_way z z h h) trees_ordered.through trees_ordered.either m k),
  (λ c r s h m. place_below (IsStructure p x n) IsBefore trees_ordered c (Counts-to (IsStructure p x n) c h) r s m),
  λ c r h l. some_place (IsStructure p x n) IsBefore trees_ordered c (Counts-to (IsStructure p x n) c h) r l,
)
