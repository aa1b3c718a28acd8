use Rattle.std.proofs.Common.{arith, ◌-◌, ◌+◌, length}
use Rattle.luo_unlabelled.specs.inner.Sizes.{from_cells, total_fold}
use Rattle.luo_unlabelled.proofs.PlaneLemmas.{total_entry}
use Rattle.luo_unlabelled.proofs.SizeCells.{fold_more, fold_same}
use Rattle.luo_unlabelled.proofs.sizes.fold_total.Goals as goal

pub loop-done-preserved : goal.loop-done-preserved
loop-done-preserved c =
    let g = total_fold c.args.ways.now c.args.charges.now c.args.counts.now c.args.d in
    let first = length c.args.cells.now - c.loop-done.done in
    let m = length c.loop-done.cells - 1 - c.loop-done.done in
    fold_more g first (length c.args.cells.now - (c.loop-done.done + 1)) m c.marked_add-total.result c.args.cells.now c.loop-done.cells
    (omega (arith, c.loop-done.invariant.long, c.loop-done-test.true)) (omega (arith, c.loop-done.invariant.long, c.loop-done-test.true)) (omega (arith, c.loop-done.invariant.long, c.loop-done-test.true))
    (total_entry (from_cells c.args.charges.now c.args.counts.now c.args.d m) _ _ c.taken-charged.result c.taken.result c.marked_add-total.result c.taken-charged.ensures c.taken.ensures c.marked_add-total.ensures
    (fold_same g c.args.ways.now first c.args.d m c.args.cells.now c.loop-done.cells (omega (arith, c.loop-done.invariant.long, c.loop-done-test.true)) c.loop-done.invariant))
    c.loop-done.invariant
