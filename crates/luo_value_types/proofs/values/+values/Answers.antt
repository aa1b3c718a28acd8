use Rattle.std.proofs.Common.{rules, length, Some, None, arith}
use Rattle.std.proofs.lemmas.List.{drop_more}
use Rattle.luo_model.specs.declared.program.Part.{Part}
use Rattle.luo_model.specs.Scopes.Stands.{stands}
use Rattle.luo_rules.specs.Settings.{shape_at}
use Rattle.luo_value_types.specs.inner.Stands.{stand_of}
use Rattle.luo_value_types.proofs.ArmsSoFar.{arms_stop, arms_more, arms_end, arm_stops_pattern}
use Rattle.luo_rules.proofs.ListFacts.{drop-slice_get}
use Rattle.luo_value_types.proofs.ValuesSoFar.{drop_at, parts_start, parts_stop, parts_more, parts_end}
use Rattle.luo_value_types.proofs.ValueSteps.{stopped, case_next_small, given_made, tuple_stops, tuple_misplaced, tuple_made, branch_stops, branch_misplaced, branch_made, branch_small, case_each, case_variable_stops, case_stops, case_made, tuple_room, branch_room, case_room_inside}
use Rattle.luo_value_types.proofs.values.+values.Goals as goal

abbrev no_part : Part
no_part = record { node = 0; name = None }

pub value-returns-in_ok-place-in-Given :
    goal.value-returns-in_ok-place-in-Given
value-returns-in_ok-place-in-Given t c =
    let m = given_made c.args.context.now.setting.now c.args.context.now.scope.now c.args.expected c.args.value.now _ c.in_ok-place-in-Given.place c.args.maker.now.body c.args.maker.now.next c.in-Given.is c.in_ok-place-in-Given.ensures.0 c.in_ok-place-in-Given.ensures.1.0 in
    (m.unbroken, (m, tt))

pub all_parts-loop-i-init : goal.all_parts-loop-i-init
all_parts-loop-i-init t c =
    parts_start c.args.context.now.setting.now c.args.context.now.scope.now c.args.factors.now c.args.parts.now c.new-made.result c.args.maker.now.body c.args.maker.now.next c.new-made.ensures c.requires.room

pub all_parts-returns : goal.all_parts-returns
all_parts-returns t c =
    let m = parts_end c.args.context.now.setting.now c.args.context.now.scope.now c.args.factors.now c.args.parts.now c.loop-i.i c.loop-i.made c.args.maker.now.body c.loop-i.maker.body c.args.maker.now.next c.loop-i.maker.next c.loop-i-test.false c.loop-i.invariant in
    (m.unbroken, (m, tt))

pub all_arms-returns : goal.all_arms-returns
all_arms-returns t c =
    let m = arms_end c.args.context.now.setting.now (stands c.args.subject.now.on (shape_at c.args.context.now.setting.now c.args.subject.now.on.node)) (Some c.args.subject.now.expected) c.args.subject.now.var.now c.args.arms.now c.loop-i.i c.loop-i.values c.loop-i.bodies c.args.next.now c.loop-i.next c.loop-i-test.false c.loop-i.invariant in
    (m.unbroken, (m, tt))

pub branch-overflow_cast-result : goal.branch-overflow_cast-result
branch-overflow_cast-result t c = record { fits = branch_small c.args.context.now.setting.now c.args.expected c.in-Some.node c.args.place.0 c.args.context.now.branches c.in-Some.ensures }

pub branch-returns-in_err-made-in-Some :
    goal.branch-returns-in_err-made-in-Some
branch-returns-in_err-made-in-Some t c =
    stopped c.from_residual.result _ _ _ c.from_residual.ensures.1
    (branch_stops c.args.context.now.setting.now c.args.context.now.scope.now c.args.expected c.in-Some.node c.args.place.0 c.args.place.1 c.args.inner.now _ c.in-Some.ensures c.in_err-made-in-Some.ensures.1.1)

pub branch-returns-in_ok-new-in-Some : goal.branch-returns-in_ok-new-in-Some
branch-returns-in_ok-new-in-Some t c =
    let m = branch_made c.args.context.now.setting.now c.args.context.now.scope.now c.args.expected c.in-Some.node c.args.place.0 c.args.place.1 c.args.inner.now c.in_ok-made-in-Some.made c.in_ok-new-in-Some.field-0 c.args.maker.now.body c.value.new.maker.body c.args.maker.now.next c.value.new.maker.next c.in-Some.ensures c.in_ok-new-in-Some.ensures c.in_ok-made-in-Some.ensures.1.0 in
    (m.unbroken, (m, tt))

pub branch-returns-in-None : goal.branch-returns-in-None
branch-returns-in-None t c =
    (tt, (tt, branch_misplaced c.args.context.now.setting.now c.args.context.now.scope.now c.args.expected c.args.place.0 c.args.place.1 c.args.inner.now c.no_branch.result c.in-None.ensures c.no_branch.ensures))

pub case-returns-in_err-there : goal.case-returns-in_err-there
case-returns-in_err-there t c =
    stopped c.from_residual.result _ _ _ c.from_residual.ensures.1
    (case_variable_stops c.args.context.now.setting.now c.args.context.now.scope.now c.args.expected c.args.var.now c.args.arms.now _ c.in_err-there.ensures.stops)

pub case-returns-in_err-made : goal.case-returns-in_err-made
case-returns-in_err-made t c =
    stopped c.from_residual-in_err-made.result _ _ _ c.from_residual-in_err-made.ensures.1
    (case_stops c.args.context.now.setting.now c.args.context.now.scope.now c.args.expected c.args.var.now c.args.arms.now c.in_ok-there.there _ c.in_ok-there.ensures.ok c.in_ok-there.ensures.arms c.in_err-made.ensures.1.1)

pub case-returns : goal.case-returns
case-returns t c =
    let m = case_made c.args.context.now.setting.now c.args.context.now.scope.now c.args.expected c.args.var.now c.args.arms.now c.in_ok-there.there c.in_ok-made.made.0 c.in_ok-made.made.1 c.args.maker.now.body c.push_item.new.body c.args.maker.now.next c.all_arms.new.next c.take_site-case_site.result c.take_site-case_site.new.next c.in_ok-there.ensures.ok c.in_ok-there.ensures.arms c.in_ok-made.ensures.1.0 c.take_site-case_site.ensures.taken c.take_site-case_site.ensures.left c.in_ok-push_item.ensures in
    (m.unbroken, (m, tt))

pub case-take_site-case_site-requires : goal.case-take_site-case_site-requires
case-take_site-case_site-requires t c =
    case_next_small c.args.context.now.setting.now (stands c.in_ok-there.there.1 (shape_at c.args.context.now.setting.now c.in_ok-there.there.1.node)) (Some c.args.expected) c.args.var.now c.args.arms.now c.args.maker.now.body.own c.args.maker.now.next c.all_arms.new.next c.requires.room c.in_ok-made.ensures.1.0.numbered

pub case-all_arms-requires : goal.case-all_arms-requires
case-all_arms-requires t c =
    (search rules, (case_each c.args.context.now.setting.now c.args.context.now.scope.now c.args.var.now (length c.args.arms.now) c.in_ok-there.there c.in_ok-there.ensures.ok c.in_ok-there.ensures.arms, case_room_inside c.args.var.now c.args.arms.now c.args.maker.now.body.own c.args.maker.now.next c.requires.room))

pub one_arm-returns-in_err-opened : goal.one_arm-returns-in_err-opened
one_arm-returns-in_err-opened t c =
    stopped c.from_residual.result _ _ _ c.from_residual.ensures.1
    (arm_stops_pattern c.args.context.now.setting.now (stand_of c.args.stand) (Some c.args.subject.now.expected) c.args.subject.now.var.now c.args.arm.now _ c.in_err-opened.ensures.stops)

pub branch-value-requires : goal.branch-value-requires
branch-value-requires t c = (search rules, branch_room c.args.place.0 c.args.place.1 c.args.inner.now c.args.maker.now.body.own c.args.maker.now.next c.requires.room)

pub tuple-all_parts-requires : goal.tuple-all_parts-requires
tuple-all_parts-requires t c = (search rules, (c.in-Some.ensures.product.1, tuple_room c.args.parts.now c.args.at c.args.maker.now.body.own c.args.maker.now.next c.requires.room))

pub tuple-returns-in_err-made-in-Some :
    goal.tuple-returns-in_err-made-in-Some
tuple-returns-in_err-made-in-Some t c =
    stopped c.from_residual.result _ _ _ c.from_residual.ensures.1
    (tuple_stops c.args.context.now.setting.now c.args.context.now.scope.now c.args.expected c.in-Some.factors.now c.args.parts.now c.args.at _ c.in-Some.ensures.product.0 c.in-Some.ensures.product.1 c.in_err-made-in-Some.ensures.1.1)

pub tuple-returns-in_ok-made-in-Some : goal.tuple-returns-in_ok-made-in-Some
tuple-returns-in_ok-made-in-Some t c =
    let m = tuple_made c.args.context.now.setting.now c.args.context.now.scope.now c.args.expected c.in-Some.factors.now c.args.parts.now c.args.at c.in_ok-made-in-Some.made c.args.maker.now.body c.all_parts.new.maker.body c.args.maker.now.next c.all_parts.new.maker.next c.in-Some.ensures.product.0 c.in-Some.ensures.product.1 c.in_ok-made-in-Some.ensures.1.0 in
    (m.unbroken, (m, tt))

pub tuple-returns-in-None : goal.tuple-returns-in-None
tuple-returns-in-None t c =
    (tt, (tt, tuple_misplaced c.args.context.now.setting.now c.args.context.now.scope.now c.args.expected c.args.parts.now c.args.at c.breach.result c.in-None.ensures.other c.breach.ensures))

pub all_parts-loop-i-preserved : goal.all_parts-loop-i-preserved
all_parts-loop-i-preserved t c =
    let at_part = drop_at c.args.parts.now c.loop-i.i c.index-parts-i.result c.loop-i-test.true c.index-parts-i.is in
    let at_factor = drop_more c.args.factors.now c.loop-i.i no_part (omega (arith, c.loop-i-test.true, c.requires.each)) in
    parts_more c.args.context.now.setting.now c.args.context.now.scope.now c.args.factors.now c.args.parts.now c.loop-i.i c.loop-i.made c.push.new.self c.args.maker.now.body c.loop-i.maker.body c.value.new.maker.body c.args.maker.now.next c.loop-i.maker.next c.value.new.maker.next _ c.index-parts-i.result c.in_ok-one.one c.args.context.now.measures c.loop-i.invariant at_factor at_part c.in_ok-one.ensures.1.0 c.in_ok-push.ensures.ok

pub all_parts-returns-in_err-one : goal.all_parts-returns-in_err-one
all_parts-returns-in_err-one t c =
    let at_part = drop_at c.args.parts.now c.loop-i.i c.index-parts-i.result c.loop-i-test.true c.index-parts-i.is in
    let at_factor = drop_more c.args.factors.now c.loop-i.i no_part (omega (arith, c.loop-i-test.true, c.requires.each)) in
    stopped c.from_residual.result _ _ _ c.from_residual.ensures.1
    (parts_stop c.args.context.now.setting.now c.args.context.now.scope.now c.args.factors.now c.args.parts.now c.loop-i.i c.loop-i.made c.args.maker.now.body c.loop-i.maker.body c.args.maker.now.next c.loop-i.maker.next _ c.index-parts-i.result _ c.loop-i.invariant at_factor at_part c.in_err-one.ensures.1.1)

pub all_arms-loop-i-preserved : goal.all_arms-loop-i-preserved
all_arms-loop-i-preserved t c =
    let at_arm = drop_at c.args.arms.now c.loop-i.i c.index-arms-i.result c.loop-i-test.true c.index-arms-i.is in
    arms_more _ _ _ _ _ _ _ _ _ _ _ _ _ _ _ _ _ c.loop-i.invariant (drop-slice_get _ c.loop-i.i (stand_of c.arm_stand-stand.result) c.arm_stand-stand.ensures) at_arm c.in_ok-made.ensures.1.0 c.in_ok-push.ensures.ok c.in_ok-push-2.ensures.ok

pub all_arms-returns-in_err-made : goal.all_arms-returns-in_err-made
all_arms-returns-in_err-made t c =
    let at_arm = drop_at c.args.arms.now c.loop-i.i c.index-arms-i.result c.loop-i-test.true c.index-arms-i.is in
    stopped c.from_residual.result _ _ _ c.from_residual.ensures.1
    (arms_stop c.args.context.now.setting.now (stands c.args.subject.now.on (shape_at c.args.context.now.setting.now c.args.subject.now.on.node)) (Some c.args.subject.now.expected) c.args.subject.now.var.now c.args.arms.now c.loop-i.i c.loop-i.values c.loop-i.bodies c.args.next.now c.loop-i.next (stand_of c.arm_stand-stand.result) c.index-arms-i.result _ c.loop-i.invariant (drop-slice_get _ c.loop-i.i (stand_of c.arm_stand-stand.result) c.arm_stand-stand.ensures) at_arm c.in_err-made.ensures.1.1)
