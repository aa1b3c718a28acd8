use Rattle.luo_engine.specs.inner.Listed.{AreSitesListed}
use Rattle.luo_engine.proofs.order.site_order_of.Given as goal

abbrev pub invariant-loop-r : goal.invariant-loop-r
invariant-loop-r l = AreSitesListed l.ranks l.levels l.r 0 0 l.order

abbrev pub invariant-loop-l : goal.invariant-loop-l
invariant-loop-l l = AreSitesListed l.ranks l.levels l.r l.l 0 l.order
