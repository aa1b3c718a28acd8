use Rattle.std.proofs.Common.{length, slice_index, refl, arith}
use Rattle.luo_unlabelled.proofs.SizeCalls.{number_first, number_second, number_later}
use Rattle.luo_unlabelled.proofs.unbounded.count_of.Goals as goal

pub returns-then-n-eq0 : goal.returns-then-n-eq0
returns-then-n-eq0 c = number_first c.args.kind (slice_index c.args.comp.now) c.args.low c.args.n c.empty.result c.requires.parts c.requires.any c.requires.alone c.if-n-eq0.true c.empty.ensures

pub returns-then-n-eq1 : goal.returns-then-n-eq1
returns-then-n-eq1 c = number_second c.args.kind (slice_index c.args.comp.now) c.args.low c.args.n _ c.requires.parts c.requires.any c.requires.alone c.if-n-eq1.true c.requires.here refl

pub returns-else-n-eq1 : goal.returns-else-n-eq1
returns-else-n-eq1 c =
    number_later c.args.kind (slice_index c.args.comp.now) c.args.ways.now c.args.cells.now c.args.low c.args.n (length c.args.comp.now) c.taken.result c.marked_add.result (slice_index c.args.comp.now c.args.n) c.requires.parts c.requires.any c.requires.alone (omega (arith, c.if-n-eq0.false, c.if-n-eq1.false)) c.requires.size
    (c.requires.known (omega (arith, c.if-n-eq0.false, c.if-n-eq1.false))) c.requires.holds refl c.taken.ensures c.marked_add.ensures
