use Rattle.std.proofs.Common.{arith, ap, ◌-◌, ◌+◌, subst, ℕ}
use Rattle.luo_num.specs.Mark.{capped}
use Rattle.luo_unlabelled.specs.inner.Planes.{total_put, with_size, IsPut}
use Rattle.luo_unlabelled.proofs.PlaneLemmas.{put_more, put_same, slim_put, slim_less}
use Rattle.luo_unlabelled.proofs.plane.put_total.Goals as goal

pub loop-done-preserved : goal.loop-done-preserved
loop-done-preserved c =
    let g = total_put c.args.ways.now c.args.charges.now c.args.counts.now c.args.wide c.args.d in
    let k : ℕ = c.args.deep - 1 - c.loop-done.done in
    subst (λ (i : ℕ). IsPut g c.args.wide i c.args.deep c.args.cells.now c.put_total_row.new.cells) (omega (arith, c.loop-done-test.true))
    (put_more g c.args.wide k (c.args.deep - c.loop-done.done) c.args.deep c.args.cells.now c.loop-done.cells c.put_total_row.new.cells (omega (arith, c.loop-done-test.true)) (omega (arith, c.loop-done-test.true))
    (λ x b. ap (λ t. capped (with_size c.args.charges.now c.args.counts.now c.args.wide c.args.d k x + t)) (put_same g c.args.ways.now c.args.wide c.args.d k (c.args.deep - c.loop-done.done) c.args.deep x c.args.cells.now c.loop-done.cells c.requires.some (omega (arith, c.loop-done-test.true)) b c.loop-done.invariant)) c.loop-done.invariant c.put_total_row.ensures)

pub put_total_row-requires-clause-slim_counts : goal.put_total_row-requires-clause-slim_counts
put_total_row-requires-clause-slim_counts c = slim_less c.args.counts.now c.args.wide c.args.deep (c.args.deep - 1 - c.loop-done.done + 1) (omega (arith, c.loop-done-test.true)) c.requires.slim_counts

pub put_total_row-requires-clause-slim : goal.put_total_row-requires-clause-slim
put_total_row-requires-clause-slim c =
    slim_put (total_put c.args.ways.now c.args.charges.now c.args.counts.now c.args.wide c.args.d) c.args.wide (c.args.deep - 1 - c.loop-done.done) (c.args.deep - c.loop-done.done) c.args.deep c.args.cells.now c.loop-done.cells (omega (arith, c.loop-done-test.true)) (omega arith) c.requires.slim c.loop-done.invariant
