use Rattle.luo_model.specs.Order.{IsBefore}
use Rattle.luo_model.specs.Structures.{IsStructure}
use Rattle.luo_counting.proofs.Orders.{trees_ordered}
use Rattle.luo_places.proofs.steps.Steps.{steps_listing, listing_steps}
use Rattle.luo_places.proofs.laws.steps_are_listings.Goals as goal

pub returns : goal.returns
returns c = λ p x n l. ((λ s. steps_listing (IsStructure p x n) IsBefore trees_ordered l s), λ o. listing_steps (IsStructure p x n) IsBefore trees_ordered l o.0 o.1)
