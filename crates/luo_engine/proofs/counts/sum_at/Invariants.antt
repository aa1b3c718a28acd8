use Rattle.std.proofs.Common.{◌≡◌, sum_by, take}
use Rattle.luo_num.specs.Mark.{capped}
use Rattle.luo_engine.specs.inner.Grid.{entry_of}
use Rattle.luo_engine.proofs.counts.sum_at.Given as goal

abbrev pub invariant-loop-part : goal.invariant-loop-part
invariant-loop-part l = l.sum ≡ capped (sum_by (λ part. entry_of l.counts part.node l.n) (take l.part-index l.parts))
