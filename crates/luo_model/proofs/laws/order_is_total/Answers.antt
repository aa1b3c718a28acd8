use Rattle.luo_model.proofs.OrderLemmas.{order_is_total}
use Rattle.luo_model.proofs.laws.order_is_total.Goals as goal

pub returns : goal.returns
returns c = order_is_total
