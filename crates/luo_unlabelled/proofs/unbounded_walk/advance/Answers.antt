use Rattle.std.proofs.Common.{◌≡◌, ◌-◌, length, subst, refl, ℕ, slice_index, arith}
use Rattle.luo_unlabelled.specs.inner.Planes.{AreCharges}
use Rattle.luo_unlabelled.proofs.SizeCells.{totals_folded, totals_left, totals_kept}
use Rattle.luo_unlabelled.proofs.unbounded_walk.advance.Goals.{else-n-gt1-via-then-n-gt1+else-comp-n-gt0, else-n-gt1-via-else-n-gt1}
use Rattle.luo_unlabelled.proofs.unbounded_walk.advance.Goals as goal

pub returns-then-comp-n-gt0 : goal.returns-then-comp-n-gt0
returns-then-comp-n-gt0 c =
    totals_folded c.args.kind (slice_index c.args.comp.now) (slice_index c.args.body.now) c.args.ways.now c.write_charges.new.charges c.args.counts.now c.args.cells.now c.fold_total.new.cells (length c.args.cells.now) (c.args.n - 2) (c.args.n - 1)
    (omega (arith, c.if-n-gt1.true)) refl c.fold_total.ensures (c.requires.known c.if-n-gt1.true)
    (subst (λ (w : ℕ). AreCharges c.args.kind (slice_index c.args.comp.now (c.args.n - 1)) (slice_index c.args.body.now (c.args.n - 1)) (c.args.n - 1) w c.write_charges.new.charges) c.requires.charges c.write_charges.ensures)
    c.requires.counted c.requires.holds

pub returns-else-n-gt1 : goal.returns-else-n-gt1
returns-else-n-gt1 c = elim c.else-n-gt1.branch [
  | else-n-gt1-via-then-n-gt1+else-comp-n-gt0 v ↦
      let z : slice_index c.args.comp.now (c.args.n - 1) ≡ 0 = (let q = v.if-comp-n-gt0.false in omega (arith, q)) in
      let t = v.if-n-gt1.true in
      totals_left c.args.kind (slice_index c.args.comp.now) (slice_index c.args.body.now) c.args.cells.now (length c.args.cells.now) (c.args.n - 2) (c.args.n - 1) (omega (arith, t)) z (c.requires.idle (omega (arith, t)) z) c.requires.holds
  | else-n-gt1-via-else-n-gt1 v ↦
      let t = v.if-n-gt1.false in
      totals_kept c.args.kind (slice_index c.args.comp.now) (slice_index c.args.body.now) c.args.cells.now (length c.args.cells.now) (c.args.n - 2) (c.args.n - 1) (omega (arith, t)) c.requires.holds
]
