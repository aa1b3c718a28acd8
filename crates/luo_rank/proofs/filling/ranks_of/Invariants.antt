use Rattle.luo_model.specs.View.{plain_of}
use Rattle.luo_rank.specs.inner.Lookup.{IsRankRow}
use Rattle.luo_rank.proofs.filling.ranks_of.Given as goal

abbrev pub invariant-loop-x : goal.invariant-loop-x
invariant-loop-x l = IsRankRow (plain_of l.ranks) l.x l.row
