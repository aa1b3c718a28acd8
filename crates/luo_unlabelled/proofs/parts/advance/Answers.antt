use Rattle.std.proofs.Common.{◌-◌, ◌+◌, slice_index, arith}
use Rattle.luo_unlabelled.specs.inner.Planes.{last_of}
use Rattle.luo_unlabelled.proofs.PartCalls.{put_holds, kept_holds}
use Rattle.luo_unlabelled.proofs.parts.advance.Goals.{then-n-gt2, else-n-gt2}
use Rattle.luo_unlabelled.proofs.PartNumbers.{slim_plane}
use Rattle.luo_unlabelled.proofs.parts.advance.Goals as goal

pub returns-then-n-gt1-clause-holds : goal.returns-then-n-gt1-clause-holds
returns-then-n-gt1-clause-holds c = elim c.if-n-gt2.branch [ then-n-gt2 w ↦ put_holds c.args.frame.kind (slice_index c.args.comp.now) c.args.ways.now c.args.cells.now w.put.new.cells c.if-n-gt2.cells (last_of c.args.frame.high c.args.frame.n_max + 1) w.deep.result (c.args.frame.n_max + 1) w.wide.result (c.args.n - 3) (c.args.n - 2) (let t = w.if-n-gt2.true in omega (arith, t)) w.wide.ensures w.deep.ensures w.cells-is w.put.ensures (c.requires.known w.if-n-gt2.true) c.requires.holds | else-n-gt2 w ↦ kept_holds c.args.frame.kind (slice_index c.args.comp.now) c.args.cells.now c.if-n-gt2.cells (last_of c.args.frame.high c.args.frame.n_max + 1) (c.args.frame.n_max + 1) (c.args.n - 3) (c.args.n - 2) (let t = w.if-n-gt2.false in omega (arith, t)) w.cells-is c.requires.holds ]

pub put-requires-clause-slim : goal.put-requires-clause-slim
put-requires-clause-slim c =
    slim_plane c.args.frame.kind (slice_index c.args.comp.now) c.args.cells.now (last_of c.args.frame.high c.args.frame.n_max + 1) (c.args.frame.n_max + 1) c.deep.result c.wide.result (c.args.n - 3) (omega (arith, c.deep.ensures)) c.wide.ensures c.requires.holds
