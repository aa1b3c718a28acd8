use Rattle.std.proofs.Common.{arith, ap, ◌∙◌, ◌-◌, ◌+◌, length}
use Rattle.luo_num.specs.Mark.{capped}
use Rattle.luo_unlabelled.specs.inner.Sizes.{count_fold}
use Rattle.luo_unlabelled.proofs.SizeCells.{fold_more, fold_same}
use Rattle.luo_unlabelled.proofs.sizes.fold.Goals as goal

pub loop-done-preserved : goal.loop-done-preserved
loop-done-preserved c =
    let g = count_fold c.args.ways.now c.args.d in
    let first = length c.args.cells.now - c.loop-done.done in
    let m = length c.loop-done.cells - 1 - c.loop-done.done in
    fold_more g first (length c.args.cells.now - (c.loop-done.done + 1)) m c.taken-number.result c.args.cells.now c.loop-done.cells
    (omega (arith, c.loop-done.invariant.long, c.loop-done-test.true)) (omega (arith, c.loop-done.invariant.long, c.loop-done-test.true)) (omega (arith, c.loop-done.invariant.long, c.loop-done-test.true))
    (c.taken-number.ensures ∙ ap capped (fold_same g c.args.ways.now first c.args.d m c.args.cells.now c.loop-done.cells (omega (arith, c.loop-done.invariant.long, c.loop-done-test.true)) c.loop-done.invariant))
    c.loop-done.invariant
