use Rattle.std.proofs.Common.{arith, slice_index}
use Rattle.luo_unlabelled.specs.inner.Steps.{step_count}
use Rattle.luo_unlabelled.proofs.CellLemmas.{settled_more}
use Rattle.luo_unlabelled.proofs.steps.settle.Goals as goal

pub loop-i-preserved : goal.loop-i-preserved
loop-i-preserved c =
    settled_more c.args.steps (step_count c.args.steps (slice_index c.args.comp.now)) c.args.m c.loop-i.i c.entry-number.result c.args.cells.now c.loop-i.cells (omega arith) c.requires.size (omega (arith, c.requires.cells, c.loop-i.invariant.long)) c.entry-number.ensures c.loop-i.invariant
