use Rattle.luo_engine.specs.inner.Listed.{IsListed}
use Rattle.luo_engine.proofs.order.order_of.Given as goal

abbrev pub invariant-loop-r : goal.invariant-loop-r
invariant-loop-r l = IsListed l.ranks l.order l.r 0

abbrev pub invariant-loop-x : goal.invariant-loop-x
invariant-loop-x l = IsListed l.ranks l.order l.r l.x
