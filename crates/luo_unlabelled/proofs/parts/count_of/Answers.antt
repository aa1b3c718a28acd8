use Rattle.std.proofs.Common.{◌+◌, ◌-◌, slice_index, refl, arith}
use Rattle.luo_unlabelled.specs.inner.Planes.{last_of}
use Rattle.luo_unlabelled.proofs.PartCalls.{count_answer, last_below}
use Rattle.luo_unlabelled.proofs.PartNumbers.{none_within, slim_plane}
use Rattle.luo_unlabelled.proofs.parts.count_of.Goals as goal

pub returns-then-low-last : goal.returns-then-low-last
returns-then-low-last c =
    count_answer c.args.frame.kind (slice_index c.args.comp.now) c.args.ways.now c.args.cells.now (last_of c.args.frame.high c.args.frame.n_max + 1) (c.args.frame.n_max + 1) c.wide.result c.args.n c.args.frame.low c.last-last.result _ c.count_within.result c.args.frame.high c.requires.parts c.wide.ensures c.last-last.ensures refl c.requires.none_empty
    (last_below c.args.frame.high c.args.n c.args.frame.n_max c.requires.size) (omega (arith, c.requires.size)) c.requires.known c.requires.holds c.count_within.ensures

pub returns-else-low-last : goal.returns-else-low-last
returns-else-low-last c = none_within c.args.frame.kind (slice_index c.args.comp.now) c.args.frame.low c.args.frame.high c.args.n c.requires.parts (omega (arith, c.if-low-last.false, c.last-last.ensures))

pub count_within-requires-clause-slim : goal.count_within-requires-clause-slim
count_within-requires-clause-slim c =
    slim_plane c.args.frame.kind (slice_index c.args.comp.now) c.args.cells.now (last_of c.args.frame.high c.args.frame.n_max + 1) (c.args.frame.n_max + 1) (c.last-last.result + 1) c.wide.result (c.args.n - 2)
    (omega (arith, c.last-last.ensures, last_below c.args.frame.high c.args.n c.args.frame.n_max c.requires.size)) c.wide.ensures c.requires.holds
