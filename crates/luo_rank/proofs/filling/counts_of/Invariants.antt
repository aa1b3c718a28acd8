use Rattle.luo_model.specs.View.{plain_of}
use Rattle.luo_rank.specs.inner.Lookup.{AreCountRows}
use Rattle.luo_rank.proofs.filling.counts_of.Given as goal

abbrev pub invariant-loop-x : goal.invariant-loop-x
invariant-loop-x l = AreCountRows (plain_of l.counts.program) l.last l.x l.rows
