use Rattle.luo_model.specs.View.{plain_of}
use Rattle.luo_answer.proofs.RowLemmas.{AreRowsTo}
use Rattle.luo_answer.proofs.rows.rows_of.Given as goal

abbrev pub invariant-loop-n : goal.invariant-loop-n
invariant-loop-n l = AreRowsTo (plain_of l.program) l.f l.n l.rows
