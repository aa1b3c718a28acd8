use Rattle.std.proofs.Common.{ap, arith, length, refl, slice_index, ◌∙◌, ◌+◌, ◌*◌}
use Rattle.luo_labelled.specs.inner.Steps.{step_count, step_total}
use Rattle.luo_labelled.proofs.RowLemmas.{cell_within, settling_more}
use Rattle.luo_labelled.proofs.rows.settle_counts.Goals as goal

pub bounds-cells-row : goal.bounds-cells-row
bounds-cells-row c =
    omega (arith, cell_within c.args.steps.last c.args.steps.wide c.loop-i.i c.args.m (length c.loop-i.cells) c.loop-i-test.true c.requires.size (c.loop-i.invariant.long ∙ c.requires.cells), c.row.ensures)

pub loop-i-preserved : goal.loop-i-preserved
loop-i-preserved c =
    settling_more c.args.steps (step_count c.args.steps c.args.kind (slice_index c.args.comp.now)) c.args.m c.loop-i.i (c.loop-i.i + 1) c.row.result c.count_entry-number.result c.args.cells.now c.loop-i.cells c.loop-i.invariant c.loop-i-test.true c.requires.size c.requires.cells c.row.ensures refl c.count_entry-number.ensures
