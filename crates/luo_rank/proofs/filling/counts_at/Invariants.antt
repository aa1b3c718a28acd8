use Rattle.luo_model.specs.View.{plain_of}
use Rattle.luo_rank.specs.inner.Lookup.{IsCountRow}
use Rattle.luo_rank.proofs.filling.counts_at.Given as goal

abbrev pub invariant-loop-n : goal.invariant-loop-n
invariant-loop-n l = IsCountRow (plain_of l.counts.program) l.x l.n l.row
