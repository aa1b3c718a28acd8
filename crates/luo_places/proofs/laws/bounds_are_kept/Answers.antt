use Rattle.std.proofs.Common.{◌≡◌}
use Rattle.luo_model.specs.Tree.{size_of}
use Rattle.luo_model.specs.Order.{IsBefore}
use Rattle.luo_model.specs.Member.{Member}
use Rattle.luo_counting.proofs.Orders.{trees_ordered}
use Rattle.luo_places.proofs.steps.Bags.{next_within, next_below}
use Rattle.luo_places.proofs.laws.bounds_are_kept.Goals as goal

pub returns : goal.returns
returns c = λ p y n t w v k e h m. (
  next_within IsBefore trees_ordered (λ z. Member p y z × (size_of z ≡ n)) t w v (k, e) h m,
  λ differ. next_below IsBefore trees_ordered (λ z. Member p y z × (size_of z ≡ n)) t w v (k, e) h m differ,
)
