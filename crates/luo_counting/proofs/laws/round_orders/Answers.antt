use Rattle.luo_counting.proofs.FactLemmas as facts
use Rattle.luo_counting.proofs.laws.round_orders.Goals as goal

pub returns : goal.returns
returns c = facts.round_orders
