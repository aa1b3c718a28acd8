use Rattle.luo_rank.specs.inner.Lookup.{AreAllPlanes}
use Rattle.luo_rank.proofs.filling.all_planes.Given as goal

abbrev pub invariant-loop-x : goal.invariant-loop-x
invariant-loop-x l = AreAllPlanes l.tables l.x l.all
