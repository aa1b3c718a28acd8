use Rattle.luo_model.specs.View.{plain_of}
use Rattle.luo_engine.specs.inner.Kept.{IsCountRow}
use Rattle.luo_engine.proofs.kept.row_of.Given as goal

abbrev pub invariant-loop-x : goal.invariant-loop-x
invariant-loop-x l = IsCountRow (plain_of l.engine.program) l.x l.n l.row
