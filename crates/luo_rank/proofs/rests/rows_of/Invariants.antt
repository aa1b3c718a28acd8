use Rattle.luo_rank.specs.inner.Lookup.{AreRows}
use Rattle.luo_rank.proofs.rests.rows_of.Given as goal

abbrev pub invariant-loop-done : goal.invariant-loop-done
invariant-loop-done l = AreRows l.tables l.x l.done l.rows
