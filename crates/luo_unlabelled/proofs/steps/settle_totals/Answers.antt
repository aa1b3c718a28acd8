use Rattle.std.proofs.Common.{arith, slice_index}
use Rattle.luo_unlabelled.specs.inner.Steps.{step_total}
use Rattle.luo_unlabelled.proofs.CellLemmas.{settled_more}
use Rattle.luo_unlabelled.proofs.steps.settle_totals.Goals as goal

pub loop-i-preserved : goal.loop-i-preserved
loop-i-preserved c =
    settled_more c.args.steps (step_total c.args.steps (slice_index c.args.comp.now) (slice_index c.args.body.now)) c.args.m c.loop-i.i c.total_entry-total.result c.args.cells.now c.loop-i.cells (omega arith) c.requires.size (omega (arith, c.requires.cells, c.loop-i.invariant.long)) c.total_entry-total.ensures c.loop-i.invariant
