use Rattle.luo_model.specs.Order.{IsBefore}
use Rattle.luo_model.specs.Structures.{IsStructure}
use Rattle.luo_counting.proofs.Orders.{trees_ordered}
use Rattle.luo_places.proofs.steps.Next.{first_place, first_at}
use Rattle.luo_places.proofs.laws.first_is_place_zero.Goals as goal

pub returns : goal.returns
returns c = λ p x n s. ((λ k. first_place (IsStructure p x n) IsBefore trees_ordered s k), λ m. first_at (IsStructure p x n) IsBefore s m)
