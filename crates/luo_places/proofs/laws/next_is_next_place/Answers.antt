use Rattle.luo_model.specs.Order.{IsBefore}
use Rattle.luo_model.specs.Structures.{IsStructure}
use Rattle.luo_counting.proofs.Orders.{trees_ordered}
use Rattle.luo_places.proofs.steps.Next.{next_place, place_next}
use Rattle.luo_places.proofs.laws.next_is_next_place.Goals as goal

pub returns : goal.returns
returns c = λ p x n r s t m. ((λ k. next_place (IsStructure p x n) IsBefore trees_ordered r s t m k), λ k. place_next (IsStructure p x n) IsBefore trees_ordered r s t m k)
