use Rattle.std.proofs.Common.{arith, ap, ◌-◌, subst, ℕ}
use Rattle.luo_num.specs.Mark.{capped}
use Rattle.luo_unlabelled.specs.inner.Planes.{count_put, IsPut}
use Rattle.luo_unlabelled.proofs.PlaneLemmas.{put_more, put_same, slim_put}
use Rattle.luo_unlabelled.proofs.plane.put.Goals as goal

pub loop-done-preserved : goal.loop-done-preserved
loop-done-preserved c =
    let g = count_put c.args.ways.now c.args.wide c.args.d in
    let k : ℕ = c.args.deep - 1 - c.loop-done.done in
    subst (λ (i : ℕ). IsPut g c.args.wide i c.args.deep c.args.cells.now c.put_row.new.cells) (omega (arith, c.loop-done-test.true))
    (put_more g c.args.wide k (c.args.deep - c.loop-done.done) c.args.deep c.args.cells.now c.loop-done.cells c.put_row.new.cells (omega (arith, c.loop-done-test.true)) (omega (arith, c.loop-done-test.true))
    (λ x b. ap capped (put_same g c.args.ways.now c.args.wide c.args.d k (c.args.deep - c.loop-done.done) c.args.deep x c.args.cells.now c.loop-done.cells c.requires.some (omega (arith, c.loop-done-test.true)) b c.loop-done.invariant)) c.loop-done.invariant c.put_row.ensures)

pub put_row-requires-clause-slim : goal.put_row-requires-clause-slim
put_row-requires-clause-slim c =
    slim_put (count_put c.args.ways.now c.args.wide c.args.d) c.args.wide (c.args.deep - 1 - c.loop-done.done) (c.args.deep - c.loop-done.done) c.args.deep c.args.cells.now c.loop-done.cells (omega (arith, c.loop-done-test.true)) (omega arith) c.requires.slim c.loop-done.invariant
