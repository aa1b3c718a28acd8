use Rattle.std.proofs.Common.{◌≡◌, ◌∷◌, [], length, refl, sym, ap, subst, ◌∙◌, arith}
use Rattle.luo_model.specs.declared.body.Item.{Item}
use Rattle.luo_model.specs.Charges.{BodyCharges, EachCharges, ItemsCharge, ItemCharges, Charges}
use Rattle.luo_model.specs.Program as plain
use Rattle.luo_model.specs.Tree.{to_list}
use Rattle.luo_model.specs.View.{Held, plain_of, procedure_of, item_of, item_list, body_of}
use Rattle.luo_model.specs.Lists.{arm_list}
use Rattle.luo_model.proofs.ViewLemmas.{case_item, walk_item}
use Rattle.luo_struct.specs.declared.structure.Structure.{Structure}
use Rattle.luo_struct.specs.View.{tree_of, tree_list}
use Rattle.luo_struct.proofs.ViewLemmas.{tuple_tree, collection_tree, branch_tree}
use Rattle.luo_interp.proofs.ChargeSteps.{reach, some_parts, part_reach, got, sum_next, sum_end, some_left, call_short, body_charges, no_procedure, tree_at, item_stands, case_stands, walk_stands, arm_stands, item_short, called, item_charged, item_unbound, body_charged, branch_charged, branch_missing, tuple_charged, nothing_bound, more_arms, branch_falls, tuple_falls, part_falls, few, all_left, proc_at, no_proc, walked}
use Rattle.luo_interp.proofs.charges.+charges.Goals as goal

pub arm_charge-body_charge-requires : goal.arm_charge-body_charge-requires
arm_charge-body_charge-requires t c =
    let procs : c.len.result ≡ length c.args.program.now.procs = c.len.ensures ∙ ap (λ (h : Held). length h.procs) c.program.view_is in
    (omega (arith, c.decreases, procs), (c.requires.ends, (c.requires.stands, λ g i. all_left c.args.program.now c.len.result procs c.requires.ends.founded g)))

pub body_charge-returns : goal.body_charge-returns
body_charge-returns t c = body_charged (plain_of c.args.program.now) c.args.body.now c.as_slice.result.now (to_list (tree_list c.args.vars.now)) c.items_charge-items.result c.marked_add.result c.as_slice.ensures c.items_charge-items.ensures c.marked_add.ensures

pub case_charge-arm_charge-requires : goal.case_charge-arm_charge-requires
case_charge-arm_charge-requires t c =
    let inner = branch_tree c.args.s.now c.in-Inj.branch c.in-Inj.inner c.get-in-Some-get.result.now c.in-Inj.is c.get-in-Some-get.ensures in
    let at = got c.args.arms.now c.in-Some.place c.in-Some-get.arm.now c.in-Some-get.ensures.lookup.3.0 c.in-Some-get.ensures.lookup.1 in (
      omega (arith, c.decreases, branch_falls (tree_of c.args.s.now) (tree_of c.get-in-Some-get.result.now) c.in-Inj.branch c.in-Some-get.arm.now.bind (to_list (tree_list c.bound.result.now)) inner c.bound.ensures),
      (c.requires.ends, arm_stands (plain_of c.args.program.now) c.args.arms.now c.in-Some.place c.in-Some-get.arm.now at c.requires.stand),
    )

pub case_charge-arm_charge-requires-in-Parts : goal.case_charge-arm_charge-requires-in-Parts
case_charge-arm_charge-requires-in-Parts t c =
    let tuple = tuple_tree c.args.s.now c.in-Tup.parts c.as_slice.result.now c.in-Tup.is c.as_slice.ensures in
    let at = got c.args.arms.now 0 c.arm-item.result (omega arith) c.arm-item.is in
    (omega (arith, c.decreases, tuple_falls (tree_of c.args.s.now) (tree_list c.as_slice.result.now) tuple), (c.requires.ends, arm_stands (plain_of c.args.program.now) c.args.arms.now 0 c.arm-item.result at c.requires.stand))

pub case_charge-arm_charge-requires-in_default-bind : goal.case_charge-arm_charge-requires-in_default-bind
case_charge-arm_charge-requires-in_default-bind t c =
    let at = got c.args.arms.now 0 c.arm-item.result (omega arith) c.arm-item.is in
    (omega (arith, c.decreases), (c.requires.ends, arm_stands (plain_of c.args.program.now) c.args.arms.now 0 c.arm-item.result at c.requires.stand))

pub case_charge-returns-in-Some-get : goal.case_charge-returns-in-Some-get
case_charge-returns-in-Some-get t c =
    let inner = branch_tree c.args.s.now c.in-Inj.branch c.in-Inj.inner c.get-in-Some-get.result.now c.in-Inj.is c.get-in-Some-get.ensures in
    let at = got c.args.arms.now c.in-Some.place c.in-Some-get.arm.now c.in-Some-get.ensures.lookup.3.0 c.in-Some-get.ensures.lookup.1 in
    branch_charged (plain_of c.args.program.now) c.args.arms.now (tree_of c.args.s.now) (tree_of c.get-in-Some-get.result.now) c.in-Inj.branch c.in-Some.place c.in-Some-get.arm.now (to_list (tree_list c.bound.result.now)) c.arm_charge.result
    inner (omega arith) at c.bound.ensures c.arm_charge.ensures

pub case_charge-returns-in-None : goal.case_charge-returns-in-None
case_charge-returns-in-None t c =
    let inner = branch_tree c.args.s.now c.in-Inj.branch c.in-Inj.inner c.in-Inj.inner c.in-Inj.is refl in
    branch_missing (plain_of c.args.program.now) c.args.arms.now (tree_of c.args.s.now) (tree_of c.in-Inj.inner) c.in-Inj.branch c.in-Some.place inner (omega arith) c.in-None.ensures.lookup.3

pub case_charge-returns-in-Parts : goal.case_charge-returns-in-Parts
case_charge-returns-in-Parts t c =
    let tuple = tuple_tree c.args.s.now c.in-Tup.parts c.as_slice.result.now c.in-Tup.is c.as_slice.ensures in
    let at = got c.args.arms.now 0 c.arm-item.result (omega arith) c.arm-item.is in
    tuple_charged (plain_of c.args.program.now) c.args.arms.now (tree_of c.args.s.now) (tree_list c.as_slice.result.now) c.arm-item.result c.in-Parts.field-0 c.arm_charge-in-Parts.result tuple (omega arith) at c.in-Parts.is c.arm_charge-in-Parts.ensures

pub case_charge-returns-in_default-bind : goal.case_charge-returns-in_default-bind
case_charge-returns-in_default-bind t c =
    let tuple = tuple_tree c.args.s.now c.in-Tup.parts c.in-Tup.parts c.in-Tup.is refl in
    let at = got c.args.arms.now 0 c.arm-item.result (omega arith) c.arm-item.is in
    nothing_bound (plain_of c.args.program.now) c.requires.ends.program c.args.arms.now (tree_of c.args.s.now) (tree_list c.in-Tup.parts) c.arm-item.result c.arm_charge-in_default-bind.result
    c.requires.stand tuple (omega arith) at c.in_default-bind.not-Parts c.arm_charge-in_default-bind.ensures

pub case_charge-returns-in_default-arms-2 : goal.case_charge-returns-in_default-arms-2
case_charge-returns-in_default-arms-2 t c =
    more_arms (plain_of c.args.program.now) c.args.arms.now (tree_of c.args.s.now) (tree_list c.in-Tup.parts) (tuple_tree c.args.s.now c.in-Tup.parts c.in-Tup.parts c.in-Tup.is refl) (λ e. omega (arith, e, c.in_default-arms.len_at_least))

pub item_charge-procedure_charge-requires : goal.item_charge-procedure_charge-requires
item_charge-procedure_charge-requires t c =
    let at = got c.args.vars.now c.in-Call.var c.in-Some.s.now c.in-Some.ensures.lookup.3.0 c.in-Some.ensures.lookup.1 in
    let falls = part_reach (to_list (tree_list c.args.vars.now)) c.in-Call.var (tree_of c.in-Some.s.now) (tree_at c.args.vars.now c.in-Call.var c.in-Some.s.now at) in
    (omega (arith, c.decreases, falls), (c.requires.ends, called (plain_of c.args.program.now) c.args.left c.args.item.now c.in-Call.var c.in-Call.callee c.in-Call.site c.in-Call.is c.requires.short))

pub item_charge-case_charge-requires : goal.item_charge-case_charge-requires
item_charge-case_charge-requires t c =
    let at = got c.args.vars.now c.in-Case.var c.in-Some-get.s.now c.in-Some-get.ensures.lookup.3.0 c.in-Some-get.ensures.lookup.1 in
    let falls = part_reach (to_list (tree_list c.args.vars.now)) c.in-Case.var (tree_of c.in-Some-get.s.now) (tree_at c.args.vars.now c.in-Case.var c.in-Some-get.s.now at) in
    (omega (arith, c.decreases, falls, some_parts (tree_of c.in-Some-get.s.now), few c.args.program.now c.requires.ends), (c.requires.ends, case_stands (plain_of c.args.program.now) c.args.item.now c.in-Case.var c.in-Case.site c.in-Case.arms c.as_slice.result.now c.in-Case.is c.as_slice.ensures c.requires.stands))

pub item_charge-walk_charge-requires : goal.item_charge-walk_charge-requires
item_charge-walk_charge-requires t c =
    let at = got c.args.vars.now c.in-Forall.var c.in-Some-get-2.s.now c.in-Some-get-2.ensures.lookup.3.0 c.in-Some-get-2.ensures.lookup.1 in
    let falls = part_reach (to_list (tree_list c.args.vars.now)) c.in-Forall.var (tree_of c.in-Some-get-2.s.now) (tree_at c.args.vars.now c.in-Forall.var c.in-Some-get-2.s.now at) in
    (omega (arith, c.decreases, falls, some_parts (tree_of c.in-Some-get-2.s.now), few c.args.program.now c.requires.ends), (c.requires.ends, walk_stands (plain_of c.args.program.now) c.args.item.now c.in-Forall.var c.in-Forall.body_site c.in-Forall.site c.in-Forall.body c.in-Forall.is c.requires.stands))

pub item_charge-returns-in-Some : goal.item_charge-returns-in-Some
item_charge-returns-in-Some t c =
    item_charged (plain_of c.args.program.now) c.args.item.now (plain.Call c.in-Call.var c.in-Call.callee c.in-Call.site) c.args.vars.now c.in-Some.s.now c.procedure_charge.result
    (ap item_of c.in-Call.is) (got c.args.vars.now c.in-Call.var c.in-Some.s.now c.in-Some.ensures.lookup.3.0 c.in-Some.ensures.lookup.1) c.procedure_charge.ensures

pub item_charge-returns-in-None : goal.item_charge-returns-in-None
item_charge-returns-in-None t c = item_unbound (plain_of c.args.program.now) c.args.item.now (plain.Call c.in-Call.var c.in-Call.callee c.in-Call.site) c.args.vars.now (ap item_of c.in-Call.is) c.in-None.ensures.lookup.3

pub item_charge-returns-in-Some-get : goal.item_charge-returns-in-Some-get
item_charge-returns-in-Some-get t c =
    item_charged (plain_of c.args.program.now) c.args.item.now (plain.Case c.in-Case.var (arm_list c.as_slice.result.now) c.in-Case.site) c.args.vars.now c.in-Some-get.s.now c.case_charge.result
    (ap item_of c.in-Case.is ∙ case_item c.in-Case.var c.in-Case.arms c.in-Case.site ∙ ap (λ arms. plain.Case c.in-Case.var (arm_list arms) c.in-Case.site) (sym c.as_slice.ensures))
    (got c.args.vars.now c.in-Case.var c.in-Some-get.s.now c.in-Some-get.ensures.lookup.3.0 c.in-Some-get.ensures.lookup.1) c.case_charge.ensures

pub item_charge-returns-in-None-get : goal.item_charge-returns-in-None-get
item_charge-returns-in-None-get t c =
    item_unbound (plain_of c.args.program.now) c.args.item.now (plain.Case c.in-Case.var (arm_list c.in-Case.arms) c.in-Case.site) c.args.vars.now (ap item_of c.in-Case.is ∙ case_item c.in-Case.var c.in-Case.arms c.in-Case.site) c.in-None-get.ensures.lookup.3

pub item_charge-returns-in-Some-get-2 : goal.item_charge-returns-in-Some-get-2
item_charge-returns-in-Some-get-2 t c =
    item_charged (plain_of c.args.program.now) c.args.item.now (plain.Forall c.in-Forall.var (body_of c.in-Forall.body) c.in-Forall.body_site c.in-Forall.site) c.args.vars.now c.in-Some-get-2.s.now c.walk_charge.result
    (ap item_of c.in-Forall.is ∙ walk_item c.in-Forall.var c.in-Forall.body c.in-Forall.body_site c.in-Forall.site)
    (got c.args.vars.now c.in-Forall.var c.in-Some-get-2.s.now c.in-Some-get-2.ensures.lookup.3.0 c.in-Some-get-2.ensures.lookup.1) c.walk_charge.ensures

pub item_charge-returns-in-None-get-2 : goal.item_charge-returns-in-None-get-2
item_charge-returns-in-None-get-2 t c =
    item_unbound (plain_of c.args.program.now) c.args.item.now (plain.Forall c.in-Forall.var (body_of c.in-Forall.body) c.in-Forall.body_site c.in-Forall.site) c.args.vars.now
    (ap item_of c.in-Forall.is ∙ walk_item c.in-Forall.var c.in-Forall.body c.in-Forall.body_site c.in-Forall.site) c.in-None-get-2.ensures.lookup.3

pub items_charge-item_charge-requires : goal.items_charge-item_charge-requires
items_charge-item_charge-requires t c =
    let at = got c.args.items.now c.loop-item.item-index c.item-item.result c.loop-item-test.true c.item-item.is in (
      omega (arith, c.decreases),
      (
        c.requires.ends,
        (
          item_stands (plain_of c.args.program.now) c.args.items.now c.loop-item.item-index c.item-item.result at c.requires.stand,
          item_short (plain_of c.args.program.now) c.args.left c.args.items.now c.loop-item.item-index c.item-item.result at c.requires.short,
        ),
      ),
    )

pub items_charge-loop-item-preserved : goal.items_charge-loop-item-preserved
items_charge-loop-item-preserved t c =
    sum_next Item (λ items q. ItemsCharge (Charges (plain_of c.args.program.now)) (item_list items) (to_list (tree_list c.args.vars.now)) q) (λ x q. ItemCharges (Charges (plain_of c.args.program.now)) (item_of x) (to_list (tree_list c.args.vars.now)) q) c.args.items.now (λ x ys q k. k)
    c.loop-item.item-index c.item-item.result c.loop-item.sum c.item_charge.result c.marked_add-sum.result c.loop-item-test.true c.item-item.is c.item_charge.ensures c.marked_add-sum.ensures c.loop-item.invariant

pub items_charge-returns : goal.items_charge-returns
items_charge-returns t c =
    sum_end Item (λ items q. ItemsCharge (Charges (plain_of c.args.program.now)) (item_list items) (to_list (tree_list c.args.vars.now)) q) (λ x q. ItemCharges (Charges (plain_of c.args.program.now)) (item_of x) (to_list (tree_list c.args.vars.now)) q) c.args.items.now (λ q k. k)
    c.loop-item.item-index c.loop-item.sum c.loop-item-test.false c.loop-item.invariant

pub procedure_charge-overflow_sub-left : goal.procedure_charge-overflow_sub-left
procedure_charge-overflow_sub-left t c = omega (arith, some_left (plain_of c.args.program.now) c.args.left c.args.callee c.requires.short)

pub procedure_charge-body_charge-requires : goal.procedure_charge-body_charge-requires
procedure_charge-body_charge-requires t c =
    let p = plain_of c.args.program.now in
    let P = procedure_of c.in-Some.procedure.now in
    let at = proc_at c.args.program.now _ c.args.callee c.in-Some.procedure.now (ap (λ (h : Held). h.procs) c.program.view_is) c.in-Some.ensures.value in (
      omega (arith, c.decreases, ap (λ ss. reach (to_list (tree_list ss))) c.from_ref.ensures.value, some_parts (tree_of c.args.s.now), some_left p c.args.left c.args.callee c.requires.short),
      (c.requires.ends, ((P.on ∷ [], (c.requires.ends.program.procedures c.args.callee P at).1), call_short p c.args.left c.args.callee P at c.requires.short)),
    )

pub procedure_charge-returns-in-Some : goal.procedure_charge-returns-in-Some
procedure_charge-returns-in-Some t c =
    let p = plain_of c.args.program.now in
    let P = procedure_of c.in-Some.procedure.now in
    let at = proc_at c.args.program.now _ c.args.callee c.in-Some.procedure.now (ap (λ (h : Held). h.procs) c.program.view_is) c.in-Some.ensures.value in
    λ q k. c.body_charge.ensures q (subst (λ ss. BodyCharges (Charges p) (body_of c.in-Some.procedure.now.body) (to_list (tree_list ss)) q) (sym c.from_ref.ensures.value) (body_charges p c.args.callee P (tree_of c.args.s.now) q at k))

pub procedure_charge-returns-in-None : goal.procedure_charge-returns-in-None
procedure_charge-returns-in-None t c = λ q k. absurd (no_procedure (plain_of c.args.program.now) c.args.callee (tree_of c.args.s.now) q (no_proc c.args.program.now _ c.args.callee (ap (λ (h : Held). h.procs) c.program.view_is) c.in-None.ensures.value) k)

pub walk_charge-body_charge-requires : goal.walk_charge-body_charge-requires
walk_charge-body_charge-requires t c =
    let procs : c.len-left.result ≡ length c.args.program.now.procs = c.len-left.ensures ∙ ap (λ (h : Held). length h.procs) c.program.view_is in
    let whole = collection_tree c.args.s.now c.in-Coll.parts c.as_slice-parts.result.now c.in-Coll.is c.as_slice-parts.ensures in
    let at = got c.as_slice-parts.result.now c.loop-part.part-index c.part-item.result c.loop-part-test.true c.part-item.is in (
      omega (arith, c.decreases, procs, ap (λ ss. reach (to_list (tree_list ss))) c.from_ref.ensures.value, part_falls (tree_of c.args.s.now) c.as_slice-parts.result.now c.loop-part.part-index c.part-item.result whole at),
      (c.requires.ends, (c.requires.stands, λ g i. all_left c.args.program.now c.len-left.result procs c.requires.ends.founded g)),
    )

pub walk_charge-loop-part-preserved : goal.walk_charge-loop-part-preserved
walk_charge-loop-part-preserved t c =
    sum_next Structure (λ parts q. EachCharges (λ t. BodyCharges (Charges (plain_of c.args.program.now)) (body_of c.args.body.now) (t ∷ [])) (tree_list parts) q) (λ x q. BodyCharges (Charges (plain_of c.args.program.now)) (body_of c.args.body.now) (tree_of x ∷ []) q) c.as_slice-parts.result.now (λ x ys q k. k)
    c.loop-part.part-index c.part-item.result c.loop-part.sum c.body_charge.result c.marked_add-sum.result c.loop-part-test.true c.part-item.is
    (λ q k. c.body_charge.ensures q (subst (λ ss. BodyCharges (Charges (plain_of c.args.program.now)) (body_of c.args.body.now) (to_list (tree_list ss)) q) (sym c.from_ref.ensures.value) k)) c.marked_add-sum.ensures c.loop-part.invariant

pub walk_charge-returns : goal.walk_charge-returns
walk_charge-returns t c =
    walked (plain_of c.args.program.now) (body_of c.args.body.now) c.args.s.now c.as_slice-parts.result.now c.loop-part.sum (collection_tree c.args.s.now c.in-Coll.parts c.as_slice-parts.result.now c.in-Coll.is c.as_slice-parts.ensures)
    (sum_end Structure (λ parts q. EachCharges (λ t. BodyCharges (Charges (plain_of c.args.program.now)) (body_of c.args.body.now) (t ∷ [])) (tree_list parts) q) (λ x q. BodyCharges (Charges (plain_of c.args.program.now)) (body_of c.args.body.now) (tree_of x ∷ []) q) c.as_slice-parts.result.now (λ q k. k)
    c.loop-part.part-index c.loop-part.sum c.loop-part-test.false c.loop-part.invariant)
