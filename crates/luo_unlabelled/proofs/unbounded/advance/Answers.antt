use Rattle.std.proofs.Common.{◌-◌, length, slice_index, sym, arith}
use Rattle.luo_unlabelled.proofs.SizeCells.{fold_holds, fold_left}
use Rattle.luo_unlabelled.proofs.unbounded.advance.Goals.{then-n-gt2+then-comp-n-gt0, else-n-gt2, else-n-gt2-via-then-n-gt2+else-comp-n-gt0, else-n-gt2-via-else-n-gt2}
use Rattle.luo_unlabelled.proofs.unbounded.advance.Goals as goal

pub returns-then-n-gt1-clause-holds : goal.returns-then-n-gt1-clause-holds
returns-then-n-gt1-clause-holds c = elim c.if-n-gt2.branch [
  | then-n-gt2+then-comp-n-gt0 w ↦ fold_holds c.args.kind (slice_index c.args.comp.now) c.args.ways.now c.args.cells.now w.fold.new.cells c.if-n-gt2.cells (length c.args.comp.now) (c.args.n - 3) (c.args.n - 2) (let t = w.if-n-gt2.true in omega (arith, t)) (sym c.requires.cells) w.cells-is w.fold.ensures (c.requires.known w.if-n-gt2.true) c.requires.holds
  | else-n-gt2 w ↦ elim w.else-n-gt2.branch [
    | else-n-gt2-via-then-n-gt2+else-comp-n-gt0 v ↦ fold_left c.args.kind (slice_index c.args.comp.now) c.args.cells.now c.if-n-gt2.cells (length c.args.comp.now) c.args.n (λ t. let z = v.if-comp-n-gt0.false in omega (arith, z)) w.cells-is c.requires.holds
    | else-n-gt2-via-else-n-gt2 v ↦ fold_left c.args.kind (slice_index c.args.comp.now) c.args.cells.now c.if-n-gt2.cells (length c.args.comp.now) c.args.n (λ t. let z = v.if-n-gt2.false in absurd (omega (arith, t, z))) w.cells-is c.requires.holds
  ]
]
