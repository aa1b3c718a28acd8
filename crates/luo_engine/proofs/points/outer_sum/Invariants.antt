use Rattle.std.proofs.Common.{◌≡◌, sum_by, take, slice_index}
use Rattle.luo_num.specs.Mark.{capped}
use Rattle.luo_engine.specs.inner.Grid.{entry_of}
use Rattle.luo_engine.specs.inner.Partial.{closing}
use Rattle.luo_engine.proofs.points.outer_sum.Given as goal

abbrev pub invariant-loop-s : goal.invariant-loop-s
invariant-loop-s l = l.sum ≡ capped (sum_by (λ s. closing 0 (entry_of l.totals s) (slice_index l.rest) l.n (slice_index l.rest l.n)) (take l.s-index l.sites))
