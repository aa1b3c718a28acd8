use Rattle.std.proofs.Common.{◌≡◌, ◌+◌, ◌-◌, ◌++◌, ◌∷◌, [], true, false, refl, sym, ◌∙◌, ap, subst, arith}
use Rattle.luo_model.specs.declared.program.Shape.TheVariants as shape
use Rattle.luo_struct.specs.View.{tree_of, tree_list}
use Rattle.luo_struct.proofs.ViewLemmas.{branch_tree, tuple_tree, collection_tree}
use Rattle.luo_rank.proofs.ShareLemmas.{next_spread}
use Rattle.luo_stepper.specs.declared.stepping.Step.TheVariants as step
use Rattle.luo_stepper.specs.inner.Stepping.{AreLabels, IsSome, IsSplit, IsRoomOf, Stepped, Moved, Began, Turned, Branched, from_place, up_to, node_of, weight_of}
use Rattle.luo_stepper.proofs.SizeLemmas.{if_ok_into}
use Rattle.luo_stepper.proofs.RowAnswers.{answer_end, answer_on, answer_first, answer_turned, answer_ended, rest_falls, rest_here, has_part, own_falls, own_here, begin_stands, begin_labels, begin_within, begin_some, merge_asked, sum_small, turn_stands, turn_left, turn_room}
use Rattle.luo_stepper.proofs.StepAnswers.{atom_told, branch_node, branch_there, inner_here, parts_there, parts_few, last_labels, last_within, branch_went, branch_turned, tup_spread, tup_some, coll_some, tup_went, tup_ended, coll_went, coll_ended}
use Rattle.luo_stepper.proofs.stepping.+stepping.Goals.{step_on-then-label-ne0+in_ok-push-in-Atom, step_on-else-label-ne0}
use Rattle.luo_stepper.proofs.stepping.+stepping.Goals as goal

pub parts_on-returns-then-f-len : goal.parts_on-returns-then-f-len
parts_on-returns-then-f-len t c =
    answer_end c.args.tables.now c.requires.tables.base c.args.x c.args.f c.requires.spread c.args.items.now (c.if-f-len.true ∙ c.len.ensures) c.args.labels.now c.requires.none

pub parts_on-parts_on-requires : goal.parts_on-parts_on-requires
parts_on-parts_on-requires t c =
    (omega (arith, c.decreases, rest_falls c.args.tables.now c.requires.tables.base c.args.x c.args.f c.requires.spread c.args.items.now c.requires.here (omega (arith, c.requires.long, c.len.ensures, c.if-f-len.false))), (c.requires.tables, (c.requires.node, (next_spread c.args.tables.now c.args.x c.args.f c.requires.spread, (omega (arith, c.requires.long, c.len.ensures, c.if-f-len.false), (c.new-others.ensures, rest_here c.args.tables.now c.requires.tables.base c.args.x c.args.f c.requires.spread c.args.items.now c.requires.here (omega (arith, c.requires.long, c.len.ensures, c.if-f-len.false))))))))

pub parts_on-returns-in-On : goal.parts_on-returns-in-On
parts_on-returns-in-On t c =
    answer_on c.args.tables.now c.requires.tables.base c.args.x c.args.f c.requires.spread c.args.items.now c.requires.here (omega (arith, c.requires.long, c.len.ensures, c.if-f-len.false)) c.parts_on.new.items c.parts_on.new.labels c.args.labels.now (subst (Moved c.args.tables.now c.args.x (c.args.f + 1) (up_to (c.args.f + 1) c.args.items.now) (tree_list (from_place (c.args.f + 1) c.args.items.now)) c.parts_on.new.items c.parts_on.new.labels) c.in-On.is c.in_ok-moved.ensures)

pub parts_on-first_of-node-requires-clause-some : goal.parts_on-first_of-node-requires-clause-some
parts_on-first_of-node-requires-clause-some t c =
    has_part c.args.tables.now c.requires.tables.base c.args.x c.args.f c.requires.spread c.args.items.now c.requires.here (omega (arith, c.requires.long, c.len.ensures, c.if-f-len.false))

pub parts_on-step_on-requires : goal.parts_on-step_on-requires
parts_on-step_on-requires t c =
    (omega (arith, c.decreases, own_falls c.args.tables.now c.requires.tables.base c.args.x c.args.f c.requires.spread c.args.items.now c.requires.here (omega (arith, c.requires.long, c.len.ensures, c.if-f-len.false)) c.parts_on.new.items c.parts_on.new.labels c.in-Ended.j (subst (Moved c.args.tables.now c.args.x (c.args.f + 1) (up_to (c.args.f + 1) c.args.items.now) (tree_list (from_place (c.args.f + 1) c.args.items.now)) c.parts_on.new.items c.parts_on.new.labels) c.in-Ended.is c.in_ok-moved.ensures) c.take_last-first.new.items c.take_last-first.result c.take_last-first.ensures c.first_of-node.result c.first_of-node.ensures.first), (c.requires.tables, (c.first_of-node.ensures.there, (c.new-own.ensures, own_here c.args.tables.now c.requires.tables.base c.args.x c.args.f c.requires.spread c.args.items.now c.requires.here (omega (arith, c.requires.long, c.len.ensures, c.if-f-len.false)) c.parts_on.new.items c.parts_on.new.labels c.in-Ended.j (subst (Moved c.args.tables.now c.args.x (c.args.f + 1) (up_to (c.args.f + 1) c.args.items.now) (tree_list (from_place (c.args.f + 1) c.args.items.now)) c.parts_on.new.items c.parts_on.new.labels) c.in-Ended.is c.in_ok-moved.ensures) c.take_last-first.new.items c.take_last-first.result c.take_last-first.ensures c.first_of-node.result c.first_of-node.ensures.first))))

pub parts_on-first_row-requires-clause-stands : goal.parts_on-first_row-requires-clause-stands
parts_on-first_row-requires-clause-stands t c =
    begin_stands c.args.tables.now c.requires.tables.base c.args.x c.args.f c.requires.spread c.args.items.now c.requires.here (omega (arith, c.requires.long, c.len.ensures, c.if-f-len.false)) c.parts_on.new.items c.parts_on.new.labels c.in-Ended.j (subst (Moved c.args.tables.now c.args.x (c.args.f + 1) (up_to (c.args.f + 1) c.args.items.now) (tree_list (from_place (c.args.f + 1) c.args.items.now)) c.parts_on.new.items c.parts_on.new.labels) c.in-Ended.is c.in_ok-moved.ensures) c.take_last-first.new.items c.take_last-first.result c.take_last-first.ensures c.first_of-node.result c.first_of-node.ensures.first

pub parts_on-first_row-requires-clause-labels : goal.parts_on-first_row-requires-clause-labels
parts_on-first_row-requires-clause-labels t c =
    subst (λ v. AreLabels c.args.tables.now.program.universe v c.in-Ended.j) (sym c.as_slice.ensures) (begin_labels c.args.tables.now c.requires.tables.base c.args.x c.args.f c.requires.spread c.args.items.now c.requires.here (omega (arith, c.requires.long, c.len.ensures, c.if-f-len.false)) c.parts_on.new.items c.parts_on.new.labels c.in-Ended.j (subst (Moved c.args.tables.now c.args.x (c.args.f + 1) (up_to (c.args.f + 1) c.args.items.now) (tree_list (from_place (c.args.f + 1) c.args.items.now)) c.parts_on.new.items c.parts_on.new.labels) c.in-Ended.is c.in_ok-moved.ensures) c.take_last-first.new.items c.take_last-first.result c.take_last-first.ensures c.first_of-node.result c.first_of-node.ensures.first)

pub parts_on-first_row-requires-clause-size : goal.parts_on-first_row-requires-clause-size
parts_on-first_row-requires-clause-size t c =
    begin_within c.args.tables.now c.requires.tables.base c.args.x c.args.f c.requires.spread c.args.items.now c.requires.here (omega (arith, c.requires.long, c.len.ensures, c.if-f-len.false)) c.parts_on.new.items c.parts_on.new.labels c.in-Ended.j (subst (Moved c.args.tables.now c.args.x (c.args.f + 1) (up_to (c.args.f + 1) c.args.items.now) (tree_list (from_place (c.args.f + 1) c.args.items.now)) c.parts_on.new.items c.parts_on.new.labels) c.in-Ended.is c.in_ok-moved.ensures) c.take_last-first.new.items c.take_last-first.result c.take_last-first.ensures c.first_of-node.result c.first_of-node.ensures.first

pub parts_on-first_row-requires-clause-some : goal.parts_on-first_row-requires-clause-some
parts_on-first_row-requires-clause-some t c =
    begin_some c.args.tables.now c.requires.tables.base c.args.x c.args.f c.requires.spread c.args.items.now c.requires.here (omega (arith, c.requires.long, c.len.ensures, c.if-f-len.false)) c.parts_on.new.items c.parts_on.new.labels c.in-Ended.j (subst (Moved c.args.tables.now c.args.x (c.args.f + 1) (up_to (c.args.f + 1) c.args.items.now) (tree_list (from_place (c.args.f + 1) c.args.items.now)) c.parts_on.new.items c.parts_on.new.labels) c.in-Ended.is c.in_ok-moved.ensures) c.take_last-first.new.items c.take_last-first.result c.take_last-first.ensures c.first_of-node.result c.first_of-node.ensures.first

pub parts_on-returns-in-Next : goal.parts_on-returns-in-Next
parts_on-returns-in-Next t c =
    answer_first c.args.tables.now c.requires.tables.base c.args.x c.args.f c.requires.spread c.args.items.now c.requires.here (omega (arith, c.requires.long, c.len.ensures, c.if-f-len.false)) c.parts_on.new.items c.parts_on.new.labels c.in-Ended.j (subst (Moved c.args.tables.now c.args.x (c.args.f + 1) (up_to (c.args.f + 1) c.args.items.now) (tree_list (from_place (c.args.f + 1) c.args.items.now)) c.parts_on.new.items c.parts_on.new.labels) c.in-Ended.is c.in_ok-moved.ensures) c.take_last-first.new.items c.take_last-first.result c.take_last-first.ensures c.first_of-node.result c.first_of-node.ensures.first c.in-Next.next c.push.new.self c.first_row.new.out c.step_on.new.labels c.args.labels.now (subst (Stepped c.args.tables.now c.first_of-node.result (tree_of c.take_last-first.result) c.step_on.new.labels) c.in-Next.is c.in_ok-stepped-in-Ended.ensures) c.in_ok-push-in-Next.ensures.ok
    (subst (λ v. Began c.args.tables.now c.args.x (c.args.f + 1) v c.in-Ended.j (tree_list c.push.new.self) (tree_list c.first_row.new.out)) c.as_slice.ensures c.in_ok-first_row-in-Next.ensures)

pub parts_on-merge-requires : goal.parts_on-merge-requires
parts_on-merge-requires t c =
    let q = merge_asked c.args.tables.now c.requires.tables.base c.args.x c.args.f c.requires.spread c.args.items.now c.requires.here (omega (arith, c.requires.long, c.len.ensures, c.if-f-len.false)) c.parts_on.new.items c.parts_on.new.labels c.in-Ended.j (subst (Moved c.args.tables.now c.args.x (c.args.f + 1) (up_to (c.args.f + 1) c.args.items.now) (tree_list (from_place (c.args.f + 1) c.args.items.now)) c.parts_on.new.items c.parts_on.new.labels) c.in-Ended.is c.in_ok-moved.ensures) c.take_last-first.new.items c.take_last-first.result c.take_last-first.ensures c.first_of-node.result c.first_of-node.ensures.first c.step_on.new.labels c.in-Last.i (subst (Stepped c.args.tables.now c.first_of-node.result (tree_of c.take_last-first.result) c.step_on.new.labels) c.in-Last.is c.in_ok-stepped-in-Ended.ensures) in
    record { split = (q.0, subst (λ v. IsSplit q.0 v c.as_slice-in-Last-2.result.now) (sym c.as_slice-in-Last.ensures) (subst (IsSplit q.0 c.step_on.new.labels) (sym c.as_slice-in-Last-2.ensures) q.1)) }

pub parts_on-overflow_add-i : goal.parts_on-overflow_add-i
parts_on-overflow_add-i t c =
    omega (arith, sum_small c.args.tables.now c.requires.tables.base c.args.x c.args.f c.requires.spread c.args.items.now c.requires.here (omega (arith, c.requires.long, c.len.ensures, c.if-f-len.false)) c.parts_on.new.items c.parts_on.new.labels c.in-Ended.j (subst (Moved c.args.tables.now c.args.x (c.args.f + 1) (up_to (c.args.f + 1) c.args.items.now) (tree_list (from_place (c.args.f + 1) c.args.items.now)) c.parts_on.new.items c.parts_on.new.labels) c.in-Ended.is c.in_ok-moved.ensures) c.take_last-first.new.items c.take_last-first.result c.take_last-first.ensures c.first_of-node.result c.first_of-node.ensures.first c.step_on.new.labels c.in-Last.i (subst (Stepped c.args.tables.now c.first_of-node.result (tree_of c.take_last-first.result) c.step_on.new.labels) c.in-Last.is c.in_ok-stepped-in-Ended.ensures), c.requires.tables.base.few)

pub parts_on-turn-requires-clause-stands : goal.parts_on-turn-requires-clause-stands
parts_on-turn-requires-clause-stands t c =
    turn_stands c.args.tables.now c.requires.tables.base c.args.x c.args.f c.requires.spread c.args.items.now c.requires.here (omega (arith, c.requires.long, c.len.ensures, c.if-f-len.false)) c.parts_on.new.items c.parts_on.new.labels c.in-Ended.j (subst (Moved c.args.tables.now c.args.x (c.args.f + 1) (up_to (c.args.f + 1) c.args.items.now) (tree_list (from_place (c.args.f + 1) c.args.items.now)) c.parts_on.new.items c.parts_on.new.labels) c.in-Ended.is c.in_ok-moved.ensures) c.take_last-first.new.items c.take_last-first.result c.take_last-first.ensures c.first_of-node.result c.first_of-node.ensures.first c.step_on.new.labels c.in-Last.i (subst (Stepped c.args.tables.now c.first_of-node.result (tree_of c.take_last-first.result) c.step_on.new.labels) c.in-Last.is c.in_ok-stepped-in-Ended.ensures) c.args.labels.now c.merge.new.out c.requires.none (λ L s. c.in_ok-merge-in-Last.ensures L (subst (λ v. IsSplit L v c.as_slice-in-Last-2.result.now) (sym c.as_slice-in-Last.ensures) (subst (IsSplit L c.step_on.new.labels) (sym c.as_slice-in-Last-2.ensures) s)))

pub parts_on-turn-requires-clause-left : goal.parts_on-turn-requires-clause-left
parts_on-turn-requires-clause-left t c =
    turn_left c.args.tables.now c.requires.tables.base c.args.x c.args.f c.requires.spread c.args.items.now c.requires.here (omega (arith, c.requires.long, c.len.ensures, c.if-f-len.false)) c.parts_on.new.items c.parts_on.new.labels c.in-Ended.j (subst (Moved c.args.tables.now c.args.x (c.args.f + 1) (up_to (c.args.f + 1) c.args.items.now) (tree_list (from_place (c.args.f + 1) c.args.items.now)) c.parts_on.new.items c.parts_on.new.labels) c.in-Ended.is c.in_ok-moved.ensures) c.take_last-first.new.items c.take_last-first.result c.take_last-first.ensures c.first_of-node.result c.first_of-node.ensures.first c.step_on.new.labels c.in-Last.i (subst (Stepped c.args.tables.now c.first_of-node.result (tree_of c.take_last-first.result) c.step_on.new.labels) c.in-Last.is c.in_ok-stepped-in-Ended.ensures) c.args.labels.now c.merge.new.out c.requires.none (λ L s. c.in_ok-merge-in-Last.ensures L (subst (λ v. IsSplit L v c.as_slice-in-Last-2.result.now) (sym c.as_slice-in-Last.ensures) (subst (IsSplit L c.step_on.new.labels) (sym c.as_slice-in-Last-2.ensures) s)))

pub parts_on-turn-requires-clause-reach : goal.parts_on-turn-requires-clause-reach
parts_on-turn-requires-clause-reach t c =
    sum_small c.args.tables.now c.requires.tables.base c.args.x c.args.f c.requires.spread c.args.items.now c.requires.here (omega (arith, c.requires.long, c.len.ensures, c.if-f-len.false)) c.parts_on.new.items c.parts_on.new.labels c.in-Ended.j (subst (Moved c.args.tables.now c.args.x (c.args.f + 1) (up_to (c.args.f + 1) c.args.items.now) (tree_list (from_place (c.args.f + 1) c.args.items.now)) c.parts_on.new.items c.parts_on.new.labels) c.in-Ended.is c.in_ok-moved.ensures) c.take_last-first.new.items c.take_last-first.result c.take_last-first.ensures c.first_of-node.result c.first_of-node.ensures.first c.step_on.new.labels c.in-Last.i (subst (Stepped c.args.tables.now c.first_of-node.result (tree_of c.take_last-first.result) c.step_on.new.labels) c.in-Last.is c.in_ok-stepped-in-Ended.ensures)

pub parts_on-turn-requires-clause-room : goal.parts_on-turn-requires-clause-room
parts_on-turn-requires-clause-room t c =
    subst (λ v. IsRoomOf c.args.tables.now c.args.x c.args.f c.as_slice-in-Last-3.result.now (c.in-Last.i + c.in-Ended.j) c.in-Last.i v) (sym c.as_slice-in-Last-4.ensures) (subst (λ v. IsRoomOf c.args.tables.now c.args.x c.args.f v (c.in-Last.i + c.in-Ended.j) c.in-Last.i c.step_on.new.labels) (sym c.as_slice-in-Last-3.ensures) (turn_room c.args.tables.now c.requires.tables.base c.args.x c.args.f c.requires.spread c.args.items.now c.requires.here (omega (arith, c.requires.long, c.len.ensures, c.if-f-len.false)) c.parts_on.new.items c.parts_on.new.labels c.in-Ended.j (subst (Moved c.args.tables.now c.args.x (c.args.f + 1) (up_to (c.args.f + 1) c.args.items.now) (tree_list (from_place (c.args.f + 1) c.args.items.now)) c.parts_on.new.items c.parts_on.new.labels) c.in-Ended.is c.in_ok-moved.ensures) c.take_last-first.new.items c.take_last-first.result c.take_last-first.ensures c.first_of-node.result c.first_of-node.ensures.first c.step_on.new.labels c.in-Last.i (subst (Stepped c.args.tables.now c.first_of-node.result (tree_of c.take_last-first.result) c.step_on.new.labels) c.in-Last.is c.in_ok-stepped-in-Ended.ensures) c.args.labels.now c.merge.new.out c.requires.none (λ L s. c.in_ok-merge-in-Last.ensures L (subst (λ v. IsSplit L v c.as_slice-in-Last-2.result.now) (sym c.as_slice-in-Last.ensures) (subst (IsSplit L c.step_on.new.labels) (sym c.as_slice-in-Last-2.ensures) s)))))

pub parts_on-returns-then-went : goal.parts_on-returns-then-went
parts_on-returns-then-went t c =
    answer_turned c.args.tables.now c.requires.tables.base c.args.x c.args.f c.requires.spread c.args.items.now c.requires.here (omega (arith, c.requires.long, c.len.ensures, c.if-f-len.false)) c.parts_on.new.items c.parts_on.new.labels c.in-Ended.j (subst (Moved c.args.tables.now c.args.x (c.args.f + 1) (up_to (c.args.f + 1) c.args.items.now) (tree_list (from_place (c.args.f + 1) c.args.items.now)) c.parts_on.new.items c.parts_on.new.labels) c.in-Ended.is c.in_ok-moved.ensures) c.take_last-first.new.items c.take_last-first.result c.take_last-first.ensures c.first_of-node.result c.first_of-node.ensures.first c.step_on.new.labels c.in-Last.i (subst (Stepped c.args.tables.now c.first_of-node.result (tree_of c.take_last-first.result) c.step_on.new.labels) c.in-Last.is c.in_ok-stepped-in-Ended.ensures) c.args.labels.now c.merge.new.out c.requires.none (λ L s. c.in_ok-merge-in-Last.ensures L (subst (λ v. IsSplit L v c.as_slice-in-Last-2.result.now) (sym c.as_slice-in-Last.ensures) (subst (IsSplit L c.step_on.new.labels) (sym c.as_slice-in-Last-2.ensures) s))) c.turn.new.items (subst (Turned c.args.tables.now c.args.x c.args.f c.merge.new.out (c.in-Last.i + c.in-Ended.j) c.in-Last.i c.step_on.new.labels c.take_last-first.new.items c.turn.new.items) c.if-went.true (subst (λ v. Turned c.args.tables.now c.args.x c.args.f c.merge.new.out (c.in-Last.i + c.in-Ended.j) c.in-Last.i v c.take_last-first.new.items c.turn.new.items c.in_ok-went-in-Last.went) c.as_slice-in-Last-4.ensures (subst (λ v. Turned c.args.tables.now c.args.x c.args.f v (c.in-Last.i + c.in-Ended.j) c.in-Last.i c.as_slice-in-Last-4.result.now c.take_last-first.new.items c.turn.new.items c.in_ok-went-in-Last.went) c.as_slice-in-Last-3.ensures c.in_ok-went-in-Last.ensures)))

pub parts_on-overflow_add-result : goal.parts_on-overflow_add-result
parts_on-overflow_add-result t c =
    omega (arith, sum_small c.args.tables.now c.requires.tables.base c.args.x c.args.f c.requires.spread c.args.items.now c.requires.here (omega (arith, c.requires.long, c.len.ensures, c.if-f-len.false)) c.parts_on.new.items c.parts_on.new.labels c.in-Ended.j (subst (Moved c.args.tables.now c.args.x (c.args.f + 1) (up_to (c.args.f + 1) c.args.items.now) (tree_list (from_place (c.args.f + 1) c.args.items.now)) c.parts_on.new.items c.parts_on.new.labels) c.in-Ended.is c.in_ok-moved.ensures) c.take_last-first.new.items c.take_last-first.result c.take_last-first.ensures c.first_of-node.result c.first_of-node.ensures.first c.step_on.new.labels c.in-Last.i (subst (Stepped c.args.tables.now c.first_of-node.result (tree_of c.take_last-first.result) c.step_on.new.labels) c.in-Last.is c.in_ok-stepped-in-Ended.ensures), c.requires.tables.base.few)

pub parts_on-returns-in-Last : goal.parts_on-returns-in-Last
parts_on-returns-in-Last t c =
    answer_ended c.args.tables.now c.requires.tables.base c.args.x c.args.f c.requires.spread c.args.items.now c.requires.here (omega (arith, c.requires.long, c.len.ensures, c.if-f-len.false)) c.parts_on.new.items c.parts_on.new.labels c.in-Ended.j (subst (Moved c.args.tables.now c.args.x (c.args.f + 1) (up_to (c.args.f + 1) c.args.items.now) (tree_list (from_place (c.args.f + 1) c.args.items.now)) c.parts_on.new.items c.parts_on.new.labels) c.in-Ended.is c.in_ok-moved.ensures) c.take_last-first.new.items c.take_last-first.result c.take_last-first.ensures c.first_of-node.result c.first_of-node.ensures.first c.step_on.new.labels c.in-Last.i (subst (Stepped c.args.tables.now c.first_of-node.result (tree_of c.take_last-first.result) c.step_on.new.labels) c.in-Last.is c.in_ok-stepped-in-Ended.ensures) c.args.labels.now c.merge.new.out c.requires.none (λ L s. c.in_ok-merge-in-Last.ensures L (subst (λ v. IsSplit L v c.as_slice-in-Last-2.result.now) (sym c.as_slice-in-Last.ensures) (subst (IsSplit L c.step_on.new.labels) (sym c.as_slice-in-Last-2.ensures) s))) c.turn.new.items (subst (Turned c.args.tables.now c.args.x c.args.f c.merge.new.out (c.in-Last.i + c.in-Ended.j) c.in-Last.i c.step_on.new.labels c.take_last-first.new.items c.turn.new.items) c.if-went.false (subst (λ v. Turned c.args.tables.now c.args.x c.args.f c.merge.new.out (c.in-Last.i + c.in-Ended.j) c.in-Last.i v c.take_last-first.new.items c.turn.new.items c.in_ok-went-in-Last.went) c.as_slice-in-Last-4.ensures (subst (λ v. Turned c.args.tables.now c.args.x c.args.f v (c.in-Last.i + c.in-Ended.j) c.in-Last.i c.as_slice-in-Last-4.result.now c.take_last-first.new.items c.turn.new.items c.in_ok-went-in-Last.went) c.as_slice-in-Last-3.ensures c.in_ok-went-in-Last.ensures)))

pub step_on-step_on-requires : goal.step_on-step_on-requires
step_on-step_on-requires t c =
    (omega (arith, c.decreases, ap weight_of (branch_tree c.args.s c.in-Inj.branch c.in-Inj.inner c.into_inner-inner.result c.in-Inj.is c.into_inner-inner.ensures)), (c.requires.tables, (branch_node c.args.tables.now c.requires.tables.base c.args.node c.requires.node c.as_slice-parts.result.now (sym c.shape.ensures ∙ c.in-Union.is ∙ ap shape.Union (sym c.as_slice-parts.ensures)) c.in-Inj.branch (tree_of c.into_inner-inner.result) (subst (IsSome c.args.tables.now c.args.node) (branch_tree c.args.s c.in-Inj.branch c.in-Inj.inner c.into_inner-inner.result c.in-Inj.is c.into_inner-inner.ensures) c.requires.here), (c.requires.none, inner_here c.args.tables.now c.requires.tables.base c.args.node c.requires.node c.as_slice-parts.result.now (sym c.shape.ensures ∙ c.in-Union.is ∙ ap shape.Union (sym c.as_slice-parts.ensures)) c.in-Inj.branch (tree_of c.into_inner-inner.result) (subst (IsSome c.args.tables.now c.args.node) (branch_tree c.args.s c.in-Inj.branch c.in-Inj.inner c.into_inner-inner.result c.in-Inj.is c.into_inner-inner.ensures) c.requires.here)))))

pub step_on-inject-requires : goal.step_on-inject-requires
step_on-inject-requires t c =
    omega (arith, branch_there c.args.tables.now c.requires.tables.base c.args.node c.requires.node c.as_slice-parts.result.now (sym c.shape.ensures ∙ c.in-Union.is ∙ ap shape.Union (sym c.as_slice-parts.ensures)) c.in-Inj.branch (tree_of c.into_inner-inner.result) (subst (IsSome c.args.tables.now c.args.node) (branch_tree c.args.s c.in-Inj.branch c.in-Inj.inner c.into_inner-inner.result c.in-Inj.is c.into_inner-inner.ensures) c.requires.here), parts_few c.args.tables.now c.requires.tables.base c.args.node c.requires.node c.as_slice-parts.result.now (sym c.shape.ensures ∙ c.in-Union.is ∙ ap shape.Union (sym c.as_slice-parts.ensures)) c.in-Inj.branch (tree_of c.into_inner-inner.result) (subst (IsSome c.args.tables.now c.args.node) (branch_tree c.args.s c.in-Inj.branch c.in-Inj.inner c.into_inner-inner.result c.in-Inj.is c.into_inner-inner.ensures) c.requires.here))

pub step_on-next_branch-requires-clause-there : goal.step_on-next_branch-requires-clause-there
step_on-next_branch-requires-clause-there t c =
    parts_there c.args.tables.now c.requires.tables.base c.args.node c.requires.node c.as_slice-parts.result.now (sym c.shape.ensures ∙ c.in-Union.is ∙ ap shape.Union (sym c.as_slice-parts.ensures)) c.in-Inj.branch (tree_of c.into_inner-inner.result) (subst (IsSome c.args.tables.now c.args.node) (branch_tree c.args.s c.in-Inj.branch c.in-Inj.inner c.into_inner-inner.result c.in-Inj.is c.into_inner-inner.ensures) c.requires.here)

pub step_on-next_branch-requires-clause-few : goal.step_on-next_branch-requires-clause-few
step_on-next_branch-requires-clause-few t c =
    parts_few c.args.tables.now c.requires.tables.base c.args.node c.requires.node c.as_slice-parts.result.now (sym c.shape.ensures ∙ c.in-Union.is ∙ ap shape.Union (sym c.as_slice-parts.ensures)) c.in-Inj.branch (tree_of c.into_inner-inner.result) (subst (IsSome c.args.tables.now c.args.node) (branch_tree c.args.s c.in-Inj.branch c.in-Inj.inner c.into_inner-inner.result c.in-Inj.is c.into_inner-inner.ensures) c.requires.here)

pub step_on-next_branch-requires-clause-labels : goal.step_on-next_branch-requires-clause-labels
step_on-next_branch-requires-clause-labels t c =
    subst (λ v. AreLabels c.args.tables.now.program.universe v c.in-Last.n) (sym c.as_slice.ensures) (last_labels c.args.tables.now c.requires.tables.base c.args.node c.requires.node c.as_slice-parts.result.now (sym c.shape.ensures ∙ c.in-Union.is ∙ ap shape.Union (sym c.as_slice-parts.ensures)) c.in-Inj.branch (tree_of c.into_inner-inner.result) (subst (IsSome c.args.tables.now c.args.node) (branch_tree c.args.s c.in-Inj.branch c.in-Inj.inner c.into_inner-inner.result c.in-Inj.is c.into_inner-inner.ensures) c.requires.here) c.step_on.new.labels c.in-Last.n (subst (Stepped c.args.tables.now (node_of c.as_slice-parts.result.now (c.in-Inj.branch - 1)) (tree_of c.into_inner-inner.result) c.step_on.new.labels) c.in-Last.is c.in_ok-stepped-in-Union.ensures))

pub step_on-next_branch-requires-clause-size : goal.step_on-next_branch-requires-clause-size
step_on-next_branch-requires-clause-size t c =
    last_within c.args.tables.now c.requires.tables.base c.args.node c.requires.node c.as_slice-parts.result.now (sym c.shape.ensures ∙ c.in-Union.is ∙ ap shape.Union (sym c.as_slice-parts.ensures)) c.in-Inj.branch (tree_of c.into_inner-inner.result) (subst (IsSome c.args.tables.now c.args.node) (branch_tree c.args.s c.in-Inj.branch c.in-Inj.inner c.into_inner-inner.result c.in-Inj.is c.into_inner-inner.ensures) c.requires.here) c.step_on.new.labels c.in-Last.n (subst (Stepped c.args.tables.now (node_of c.as_slice-parts.result.now (c.in-Inj.branch - 1)) (tree_of c.into_inner-inner.result) c.step_on.new.labels) c.in-Last.is c.in_ok-stepped-in-Union.ensures)

pub step_on-next_branch-requires-clause-branch : goal.step_on-next_branch-requires-clause-branch
step_on-next_branch-requires-clause-branch t c =
    branch_there c.args.tables.now c.requires.tables.base c.args.node c.requires.node c.as_slice-parts.result.now (sym c.shape.ensures ∙ c.in-Union.is ∙ ap shape.Union (sym c.as_slice-parts.ensures)) c.in-Inj.branch (tree_of c.into_inner-inner.result) (subst (IsSome c.args.tables.now c.args.node) (branch_tree c.args.s c.in-Inj.branch c.in-Inj.inner c.into_inner-inner.result c.in-Inj.is c.into_inner-inner.ensures) c.requires.here)

pub step_on-parts_on-requires : goal.step_on-parts_on-requires
step_on-parts_on-requires t c =
    (omega (arith, c.decreases, ap weight_of (tuple_tree c.args.s c.in-Tup.parts c.in-Tup.parts c.in-Tup.is refl)), (c.requires.tables, (c.requires.node, (tup_spread c.args.tables.now c.args.node (tree_list c.in-Tup.parts) (subst (IsSome c.args.tables.now c.args.node) (tuple_tree c.args.s c.in-Tup.parts c.in-Tup.parts c.in-Tup.is refl) c.requires.here), (omega arith, (c.requires.none, tup_some c.args.tables.now c.args.node (tree_list c.in-Tup.parts) (subst (IsSome c.args.tables.now c.args.node) (tuple_tree c.args.s c.in-Tup.parts c.in-Tup.parts c.in-Tup.is refl) c.requires.here)))))))

pub step_on-parts_on-requires-in-Coll : goal.step_on-parts_on-requires-in-Coll
step_on-parts_on-requires-in-Coll t c =
    (omega (arith, c.decreases, ap weight_of (collection_tree c.args.s c.in-Coll.parts c.in-Coll.parts c.in-Coll.is refl)), (c.requires.tables, (c.requires.node, (c.is_bag.ensures.spread (λ e. let q : false ≡ true = sym c.if-is_bag.false ∙ e in cc), (omega arith, (c.requires.none, coll_some c.args.tables.now c.args.node (tree_list c.in-Coll.parts) (subst (IsSome c.args.tables.now c.args.node) (collection_tree c.args.s c.in-Coll.parts c.in-Coll.parts c.in-Coll.is refl) c.requires.here)))))))

pub step_on-returns-after-label-ne0 : goal.step_on-returns-after-label-ne0
step_on-returns-after-label-ne0 t c =
    let q : (c.in-Atom.label ≡ 0 → c.if-label-ne0.labels ≡ []) × ((c.in-Atom.label ≡ 0 → ⊥) → c.if-label-ne0.labels ≡ c.in-Atom.label ∷ []) = elim c.if-label-ne0.branch [
      | step_on-then-label-ne0+in_ok-push-in-Atom w ↦ ((λ e. absurd (w.if-label-ne0.true e)), λ d. w.labels-is ∙ w.in_ok-push-in-Atom.ensures.ok ∙ ap (λ v. v ++ c.in-Atom.label ∷ []) c.requires.none)
      | step_on-else-label-ne0 w ↦ ((λ e. w.labels-is ∙ c.requires.none), λ d. absurd (d w.if-label-ne0.false))
    ] in
    subst (λ v. Stepped c.args.tables.now c.args.node v c.if-label-ne0.labels (step.Last c.in-Atom.weight)) (sym (ap tree_of c.in-Atom.is)) (atom_told c.args.tables.now c.args.node c.in-Atom.weight c.in-Atom.label c.if-label-ne0.labels q.0 q.1)

pub step_on-returns-in_ok-whole-in-Next : goal.step_on-returns-in_ok-whole-in-Next
step_on-returns-in_ok-whole-in-Next t c =
    subst (λ v. Stepped c.args.tables.now c.args.node v c.step_on.new.labels (step.Next c.in_ok-whole-in-Next.whole)) (sym (branch_tree c.args.s c.in-Inj.branch c.in-Inj.inner c.into_inner-inner.result c.in-Inj.is c.into_inner-inner.ensures))
    (branch_went c.args.tables.now c.requires.tables.base c.args.node c.requires.node c.as_slice-parts.result.now (sym c.shape.ensures ∙ c.in-Union.is ∙ ap shape.Union (sym c.as_slice-parts.ensures)) c.in-Inj.branch (tree_of c.into_inner-inner.result) (subst (IsSome c.args.tables.now c.args.node) (branch_tree c.args.s c.in-Inj.branch c.in-Inj.inner c.into_inner-inner.result c.in-Inj.is c.into_inner-inner.ensures) c.requires.here) c.step_on.new.labels c.step_on.new.labels c.in-Next.inner c.in_ok-whole-in-Next.whole (subst (Stepped c.args.tables.now (node_of c.as_slice-parts.result.now (c.in-Inj.branch - 1)) (tree_of c.into_inner-inner.result) c.step_on.new.labels) c.in-Next.is c.in_ok-stepped-in-Union.ensures) c.in_ok-whole-in-Next.ensures)

pub step_on-returns-in-Last : goal.step_on-returns-in-Last
step_on-returns-in-Last t c =
    if_ok_into c.next_branch.result (Branched c.args.tables.now c.as_slice-parts.result.now c.in-Last.n c.as_slice.result.now (c.in-Inj.branch - 1)) (Stepped c.args.tables.now c.args.node (tree_of c.args.s) c.step_on.new.labels)
    (λ out b. subst (λ v. Stepped c.args.tables.now c.args.node v c.step_on.new.labels out) (sym (branch_tree c.args.s c.in-Inj.branch c.in-Inj.inner c.into_inner-inner.result c.in-Inj.is c.into_inner-inner.ensures)) (branch_turned c.args.tables.now c.requires.tables.base c.args.node c.requires.node c.as_slice-parts.result.now (sym c.shape.ensures ∙ c.in-Union.is ∙ ap shape.Union (sym c.as_slice-parts.ensures)) c.in-Inj.branch (tree_of c.into_inner-inner.result) (subst (IsSome c.args.tables.now c.args.node) (branch_tree c.args.s c.in-Inj.branch c.in-Inj.inner c.into_inner-inner.result c.in-Inj.is c.into_inner-inner.ensures) c.requires.here) c.step_on.new.labels c.in-Last.n (subst (Stepped c.args.tables.now (node_of c.as_slice-parts.result.now (c.in-Inj.branch - 1)) (tree_of c.into_inner-inner.result) c.step_on.new.labels) c.in-Last.is c.in_ok-stepped-in-Union.ensures) out (subst (λ v. Branched c.args.tables.now c.as_slice-parts.result.now c.in-Last.n v (c.in-Inj.branch - 1) out) c.as_slice.ensures b))) c.next_branch.ensures

pub step_on-returns-in-On : goal.step_on-returns-in-On
step_on-returns-in-On t c =
    subst (λ v. Stepped c.args.tables.now c.args.node v c.parts_on.new.labels (step.Next c.tuple.result)) (sym (tuple_tree c.args.s c.in-Tup.parts c.in-Tup.parts c.in-Tup.is refl)) (tup_went c.args.tables.now c.args.node (tree_list c.in-Tup.parts) c.parts_on.new.items c.parts_on.new.labels c.tuple.result (subst (Moved c.args.tables.now c.args.node 0 [] (tree_list c.in-Tup.parts) c.parts_on.new.items c.parts_on.new.labels) c.in-On.is c.in_ok-moved-in-Tup.ensures) c.tuple.ensures)

pub step_on-returns-in-Ended : goal.step_on-returns-in-Ended
step_on-returns-in-Ended t c =
    subst (λ v. Stepped c.args.tables.now c.args.node v c.parts_on.new.labels (step.Last c.in-Ended.n)) (sym (tuple_tree c.args.s c.in-Tup.parts c.in-Tup.parts c.in-Tup.is refl)) (tup_ended c.args.tables.now c.args.node (tree_list c.in-Tup.parts) c.parts_on.new.items c.parts_on.new.labels c.in-Ended.n (subst (Moved c.args.tables.now c.args.node 0 [] (tree_list c.in-Tup.parts) c.parts_on.new.items c.parts_on.new.labels) c.in-Ended.is c.in_ok-moved-in-Tup.ensures))

pub step_on-returns-in-On-moved : goal.step_on-returns-in-On-moved
step_on-returns-in-On-moved t c =
    subst (λ v. Stepped c.args.tables.now c.args.node v c.parts_on-in-Coll.new.labels (step.Next c.collection.result)) (sym (collection_tree c.args.s c.in-Coll.parts c.in-Coll.parts c.in-Coll.is refl)) (coll_went c.args.tables.now c.args.node (tree_list c.in-Coll.parts) c.parts_on-in-Coll.new.items c.parts_on-in-Coll.new.labels c.collection.result (subst (Moved c.args.tables.now c.args.node 0 [] (tree_list c.in-Coll.parts) c.parts_on-in-Coll.new.items c.parts_on-in-Coll.new.labels) c.in-On-moved.is c.in_ok-moved-in-Coll.ensures) c.collection.ensures)

pub step_on-returns-in-Ended-moved : goal.step_on-returns-in-Ended-moved
step_on-returns-in-Ended-moved t c =
    subst (λ v. Stepped c.args.tables.now c.args.node v c.parts_on-in-Coll.new.labels (step.Last c.in-Ended-moved.n)) (sym (collection_tree c.args.s c.in-Coll.parts c.in-Coll.parts c.in-Coll.is refl)) (coll_ended c.args.tables.now c.args.node (tree_list c.in-Coll.parts) c.parts_on-in-Coll.new.items c.parts_on-in-Coll.new.labels c.in-Ended-moved.n (subst (Moved c.args.tables.now c.args.node 0 [] (tree_list c.in-Coll.parts) c.parts_on-in-Coll.new.items c.parts_on-in-Coll.new.labels) c.in-Ended-moved.is c.in_ok-moved-in-Coll.ensures))
