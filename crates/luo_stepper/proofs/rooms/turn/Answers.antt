use Rattle.std.proofs.Common.{◌+◌, ◌-◌, subst, arith}
use Rattle.luo_model.specs.Order.{IsBefore}
use Rattle.luo_places.specs.Numbers.{PartsBefore}
use Rattle.luo_places.specs.steps.Next.{IsFirst}
use Rattle.luo_struct.specs.View.{tree_of}
use Rattle.luo_rank.proofs.StepLemmas.{few_left, next_stands}
use Rattle.luo_stepper.specs.inner.Stepping.{Here, Left, IsNextRoom}
use Rattle.luo_stepper.specs.inner.Told.{RoomTold}
use Rattle.luo_stepper.proofs.ListLemmas.{joined_behind}
use Rattle.luo_stepper.proofs.rooms.turn.Goals as goal

pub overflow_add-f : goal.overflow_add-f
overflow_add-f c = omega (arith, few_left c.args.tables.now c.requires.tables.base c.args.x c.args.f c.args.n c.requires.stands)

pub first_row-requires-clause-stands : goal.first_row-requires-clause-stands
first_row-requires-clause-stands c =
    let r : IsNextRoom c.args.tables.now c.args.x c.args.f c.args.labels.now c.args.n c.args.size c.args.own.now c.in-Some.room.size c.in-Some.room.first c.in-Some.room.rest =
    subst (RoomTold c.args.tables.now c.args.x c.args.f c.args.labels.now c.args.n c.args.size c.args.own.now) c.in-Some.is c.in_ok-found.ensures in
    next_stands c.args.tables.now c.requires.tables.base c.args.x c.args.f c.args.n c.in-Some.room.size 0 c.requires.stands c.requires.left r.parts.within r.next.there.0.1

pub returns-in_ok-first_row-in-Some : goal.returns-in_ok-first_row-in-Some
returns-in_ok-first_row-in-Some c =
    let r : IsNextRoom c.args.tables.now c.args.x c.args.f c.args.labels.now c.args.n c.args.size c.args.own.now c.in-Some.room.size c.in-Some.room.first c.in-Some.room.rest =
    subst (RoomTold c.args.tables.now c.args.x c.args.f c.args.labels.now c.args.n c.args.size c.args.own.now) c.in-Some.is c.in_ok-found.ensures in
    let m = c.in_ok-first_row-in-Some.ensures in (
      c.in-Some.room.size,
      c.in-Some.room.first,
      c.in-Some.room.rest,
      r,
      tree_of c.in_ok-first-in-Some.first,
      m.0,
      subst (λ y. IsFirst (Here c.args.tables.now y c.in-Some.room.first c.in-Some.room.size) IsBefore (tree_of c.in_ok-first-in-Some.first)) c.requires.first
          (subst (λ M. IsFirst (Here c.args.tables.now c.args.node M c.in-Some.room.size) IsBefore (tree_of c.in_ok-first-in-Some.first)) c.as_slice.ensures c.in_ok-first-in-Some.ensures),
      subst (λ M. IsFirst (Left c.args.tables.now c.args.x (c.args.f + 1) M (c.args.n - c.in-Some.room.size)) PartsBefore m.0) c.as_slice-in-Some.ensures m.1,
      joined_behind c.args.items.now c.push.new.self c.first_row.new.out c.in_ok-first-in-Some.first m.0 c.in_ok-push-in-Some.ensures.ok m.2,
    )
