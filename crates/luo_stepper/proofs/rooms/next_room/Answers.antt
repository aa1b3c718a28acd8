use Rattle.std.proofs.Common.{arith}
use Rattle.luo_model.specs.View.{plain_of}
use Rattle.luo_rank.specs.inner.Lookup.{tail_at}
use Rattle.luo_rank.proofs.ShareLemmas.{ways_small}
use Rattle.luo_stepper.proofs.PlaceLemmas.{room_next, room_turned, room_ended, ways_some}
use Rattle.luo_stepper.proofs.rooms.next_room.Goals as goal

pub overflow_add-place : goal.overflow_add-place
overflow_add-place c = omega (arith, c.place_of-place.ensures.small, ways_small c.args.tables.now.program.universe (tail_at (plain_of c.args.tables.now.program) c.args.x c.args.f) c.args.n c.args.size (omega (arith, c.requires.reach, c.requires.tables.base.few)))

pub returns-then-place-ways : goal.returns-then-place-ways
returns-then-place-ways c =
    room_next c.args.tables.now c.args.x c.args.f c.args.labels.now c.args.n c.args.size c.args.own.now c.requires.room c.place_of-place.result c.place_of-place.ensures.head.0 c.place_of-place.ensures.head.1
    c.in_ok-parted.parted.first c.in_ok-parted.parted.rest c.in_ok-parted.ensures

pub returns-then-size-n : goal.returns-then-size-n
returns-then-size-n c =
    room_ended c.args.tables.now c.args.x c.args.f c.args.labels.now c.args.n c.args.size c.args.own.now c.requires.room c.place_of-place.result c.place_of-place.ensures.head.0 c.place_of-place.ensures.head.1
    c.place_of-place.ensures.small (λ h. omega (arith, h, c.ways.ensures, c.if-place-ways.false)) c.size_from-size.result c.size_from-size.ensures c.if-size-n.true

pub labels_at-requires-2-clause-ways : goal.labels_at-requires-2-clause-ways
labels_at-requires-2-clause-ways c =
    ways_some c.args.tables.now.program.universe (tail_at (plain_of c.args.tables.now.program) c.args.x c.args.f) c.args.n c.size_from-size.result (omega (arith, c.size_from-size.ensures.past)) (omega (arith, c.if-size-n.false))

pub returns : goal.returns
returns c =
    room_turned c.args.tables.now c.args.x c.args.f c.args.labels.now c.args.n c.args.size c.args.own.now c.requires.room c.place_of-place.result c.place_of-place.ensures.head.0 c.place_of-place.ensures.head.1
    c.place_of-place.ensures.small (λ h. omega (arith, h, c.ways.ensures, c.if-place-ways.false)) c.size_from-size.result c.size_from-size.ensures
    c.in_ok-parted-2.parted.first c.in_ok-parted-2.parted.rest (omega (arith, c.if-size-n.false)) c.in_ok-parted-2.ensures
