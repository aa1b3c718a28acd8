use Rattle.std.proofs.Common.{arith}
use Rattle.luo_read.proofs.ReaderLemmas.{not_end, not_empty}
use Rattle.luo_read.proofs.steps.finished.Goals as goal

pub returns-in-Behind : goal.returns-in-Behind
returns-in-Behind c = not_end c.in_ok-frames.field-0 _ c.in_ok-frames.ensures.ok
    (λ z. omega (arith, z, not_empty c.in_ok-frames.field-0.frames c.is_empty.result c.is_empty.ensures c.if-is_empty.false))
