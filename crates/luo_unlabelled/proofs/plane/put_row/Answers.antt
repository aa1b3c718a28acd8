use Rattle.std.proofs.Common.{arith, ap, ◌∙◌}
use Rattle.luo_num.specs.Mark.{capped}
use Rattle.luo_unlabelled.specs.inner.Planes.{count_put}
use Rattle.luo_unlabelled.proofs.PlaneLemmas.{row_more, row_same, slim_row, place_in}
use Rattle.luo_unlabelled.proofs.plane.put_row.Goals as goal

pub loop-m-preserved : goal.loop-m-preserved
loop-m-preserved c =
    row_more (count_put c.args.ways.now c.args.wide c.args.d) c.args.wide c.args.k c.loop-m.m c.copies-number.result c.args.cells.now c.loop-m.cells c.loop-m-test.true
    (place_in c.args.k c.args.k c.loop-m.m c.args.wide _ (omega (arith, c.requires.cells, c.loop-m.invariant.long)) (omega arith) c.loop-m-test.true)
    (c.copies-number.ensures ∙ ap capped (row_same (count_put c.args.ways.now c.args.wide c.args.d) c.args.ways.now c.args.wide c.args.d c.args.k c.loop-m.m c.args.cells.now c.loop-m.cells c.requires.some c.loop-m-test.true c.loop-m.invariant))
    c.loop-m.invariant

pub copies-number-requires-clause-slim : goal.copies-number-requires-clause-slim
copies-number-requires-clause-slim c = slim_row (count_put c.args.ways.now c.args.wide c.args.d) c.args.wide c.args.d c.args.k c.loop-m.m c.args.cells.now c.loop-m.cells c.loop-m-test.true c.requires.slim c.loop-m.invariant
