use Rattle.luo_engine.specs.inner.Listed.{AreSitesListed}
use Rattle.luo_engine.proofs.order.list_sites.Given as goal

abbrev pub invariant-loop-i : goal.invariant-loop-i
invariant-loop-i l = AreSitesListed l.ranks l.levels l.r l.l l.i l.order
