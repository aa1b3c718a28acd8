use Rattle.std.proofs.Common.{◌+◌, ◌-◌, subst, ℕ, slice_index, arith}
use Rattle.luo_unlabelled.specs.inner.Planes.{last_of, AreCharges}
use Rattle.luo_unlabelled.proofs.PartTotals.{totals_put, slim_totals}
use Rattle.luo_unlabelled.proofs.PartNumbers.{slim_plane}
use Rattle.luo_unlabelled.proofs.parts_walk.advance.Goals as goal

pub returns-then-n-gt1 : goal.returns-then-n-gt1
returns-then-n-gt1 c =
    totals_put c.args.frame.kind (slice_index c.args.comp.now) (slice_index c.args.body.now) c.args.ways.now c.write_charges.new.charges c.args.counts.now c.args.cells.now c.put_total.new.cells (last_of c.args.frame.high c.args.frame.n_max + 1) c.deep.result (c.args.frame.n_max + 1) c.wide.result (c.args.n - 2) (c.args.n - 1)
    (omega (arith, c.if-n-gt1.true)) c.wide.ensures c.deep.ensures c.put_total.ensures (c.requires.known c.if-n-gt1.true)
    (subst (λ (w : ℕ). AreCharges c.args.frame.kind (slice_index c.args.comp.now (c.args.n - 1)) (slice_index c.args.body.now (c.args.n - 1)) (c.args.n - 1) w c.write_charges.new.charges) c.requires.charges c.write_charges.ensures)
    c.requires.counted c.requires.holds

pub put_total-requires-clause-slim_counts : goal.put_total-requires-clause-slim_counts
put_total-requires-clause-slim_counts c =
    slim_plane c.args.frame.kind (slice_index c.args.comp.now) c.args.counts.now (last_of c.args.frame.high c.args.frame.n_max + 1) (c.args.frame.n_max + 1) c.deep.result c.wide.result (c.args.n - 2) (omega (arith, c.deep.ensures)) c.wide.ensures c.requires.counted

pub put_total-requires-clause-slim : goal.put_total-requires-clause-slim
put_total-requires-clause-slim c =
    slim_totals c.args.frame.kind (slice_index c.args.comp.now) (slice_index c.args.body.now) c.args.cells.now (last_of c.args.frame.high c.args.frame.n_max + 1) (c.args.frame.n_max + 1) c.deep.result c.wide.result (c.args.n - 2) (omega (arith, c.deep.ensures)) c.wide.ensures c.requires.holds
