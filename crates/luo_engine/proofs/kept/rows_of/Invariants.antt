use Rattle.luo_model.specs.View.{plain_of}
use Rattle.luo_engine.specs.inner.Kept.{AreCountRows}
use Rattle.luo_engine.proofs.kept.rows_of.Given as goal

abbrev pub invariant-loop-n : goal.invariant-loop-n
invariant-loop-n l = AreCountRows (plain_of l.engine.program) l.nodes l.n l.rows
