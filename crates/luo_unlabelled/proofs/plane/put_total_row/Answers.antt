use Rattle.std.proofs.Common.{arith, ◌+◌}
use Rattle.luo_unlabelled.specs.inner.Planes.{total_put, with_size}
use Rattle.luo_unlabelled.proofs.PlaneLemmas.{row_more, row_same, slim_row, slim_behind, place_in, total_entry}
use Rattle.luo_unlabelled.proofs.plane.put_total_row.Goals as goal

pub loop-m-preserved : goal.loop-m-preserved
loop-m-preserved c =
    row_more (total_put c.args.ways.now c.args.charges.now c.args.counts.now c.args.wide c.args.d) c.args.wide c.args.k c.loop-m.m c.marked_add-total.result c.args.cells.now c.loop-m.cells c.loop-m-test.true
    (place_in c.args.k c.args.k c.loop-m.m c.args.wide _ (omega (arith, c.requires.cells, c.loop-m.invariant.long)) (omega arith) c.loop-m-test.true)
    (total_entry (with_size c.args.charges.now c.args.counts.now c.args.wide c.args.d c.args.k c.loop-m.m) _ _ c.copies-charged.result c.copies.result c.marked_add-total.result c.copies-charged.ensures c.copies.ensures c.marked_add-total.ensures
    (row_same (total_put c.args.ways.now c.args.charges.now c.args.counts.now c.args.wide c.args.d) c.args.ways.now c.args.wide c.args.d c.args.k c.loop-m.m c.args.cells.now c.loop-m.cells c.requires.some c.loop-m-test.true c.loop-m.invariant))
    c.loop-m.invariant

pub copies-charged-requires-clause-slim : goal.copies-charged-requires-clause-slim
copies-charged-requires-clause-slim c = slim_behind c.args.counts.now c.args.wide (c.args.k + 1) c.args.d c.args.k c.loop-m.m (omega arith) c.loop-m-test.true c.requires.slim_counts

pub copies-requires-clause-slim : goal.copies-requires-clause-slim
copies-requires-clause-slim c = slim_row (total_put c.args.ways.now c.args.charges.now c.args.counts.now c.args.wide c.args.d) c.args.wide c.args.d c.args.k c.loop-m.m c.args.cells.now c.loop-m.cells c.loop-m-test.true c.requires.slim c.loop-m.invariant
