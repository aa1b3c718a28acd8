use Rattle.luo_rank.specs.inner.Lookup.{AreAllRests}
use Rattle.luo_rank.proofs.rests.all_rests.Given as goal

abbrev pub invariant-loop-x : goal.invariant-loop-x
invariant-loop-x l = AreAllRests l.tables l.x l.rests
