use Rattle.std.proofs.Common.{◌≡◌, ◌+◌, ◌-◌, ◌*◌, ◌^◌, ◌∷◌, [], length, refl, sym, ap, subst, ◌∙◌, arith, IfOk}
use Rattle.std.specs.Option.{option_map}
use Rattle.luo_model.specs.Tree.{to_list}
use Rattle.luo_model.specs.View.{Held, plain_of, procedure_of, result_of, value_of}
use Rattle.luo_founded.proofs.Charged.{parts_in}
use Rattle.luo_struct.specs.declared.structure.Structure.{Tup, Inj}
use Rattle.luo_struct.specs.View.{tree_of, tree_list}
use Rattle.luo_struct.proofs.ViewLemmas.{tuple_tree, branch_tree}
use Rattle.luo_interp.specs.Makes.{ValueMakes, Makes}
use Rattle.luo_model.specs.Lists.{value_list, value_arm_list}
use Rattle.luo_interp.specs.inner.ValueSizes.{value_size, values_size}
use Rattle.luo_interp.proofs.ChargeSteps.{reach, beneath, some_parts, part_reach, got, some_left, tree_at, branch_falls, tuple_falls, few, all_left, proc_at}
use Rattle.luo_interp.proofs.Outcomes.{ok_other}
use Rattle.luo_interp.proofs.ValueForms.{tuple_form, branch_form, case_form}
use Rattle.luo_interp.proofs.MakeSteps.{by_key, by_size, result_small, made_next, made_end, values_stand, values_short, tuple_stands, branch_stands, case_value_stands, tuple_short, branch_short, value_arm_stands, values_smaller, arm_smaller, result_short, called_value, result_at, result_fits, makes_value, no_result, given_made, given_unmade, call_made, call_unmade, case_made, case_unmade, tuple_value_made, branch_value_made, branch_made, branch_unmade, tuple_made, nothing_made, more_arms_made}
use Rattle.luo_interp.proofs.making.+makes.Goals as goal

pub arm_makes-value_makes-requires : goal.arm_makes-value_makes-requires
arm_makes-value_makes-requires t c =
    let p = plain_of c.args.program.now in
    let procs : c.len.result ≡ length c.args.program.now.procs = c.len.ensures ∙ ap (λ (h : Held). length h.procs) c.program.view_is in
    let less = by_key p (reach (to_list (tree_list c.args.vars.now)) * 2 ^ 68 + 2 * (c.len.result + 1)) (reach (to_list (tree_list c.args.vars.now)) * 2 ^ 68 + (2 * (length c.args.program.now.procs + 1) + 1)) (value_size (value_of c.args.arm.now.value)) 0 c.requires.small (omega (arith, procs)) in
    (omega (arith, c.decreases, less), (c.requires.ends, (c.requires.stands, ((λ g i. all_left c.args.program.now c.len.result procs c.requires.ends.founded g), c.requires.small))))

pub arms_make-arm_makes-requires : goal.arms_make-arm_makes-requires
arms_make-arm_makes-requires t c =
    let p = plain_of c.args.program.now in
    let inner = branch_tree c.args.s.now c.in-Inj.branch c.in-Inj.inner c.get-in-Some-get.result.now c.in-Inj.is c.get-in-Some-get.ensures in
    let at = got c.args.arms.now c.in-Some.place c.in-Some-get.arm.now c.in-Some-get.ensures.lookup.3.0 c.in-Some-get.ensures.lookup.1 in
    let falls = branch_falls (tree_of c.args.s.now) (tree_of c.get-in-Some-get.result.now) c.in-Inj.branch c.in-Some-get.arm.now.bind (to_list (tree_list c.bound.result.now)) inner c.bound.ensures in
    let less = by_key p (reach (to_list (tree_list c.bound.result.now)) * 2 ^ 68 + (2 * (length c.args.program.now.procs + 1) + 1)) (beneath (tree_of c.args.s.now) * 2 ^ 68 + (2 * (length c.args.program.now.procs + 1) + 2)) 0 0 (omega arith) (omega (arith, falls)) in
    (omega (arith, c.decreases, less), (c.requires.ends, (value_arm_stands p c.args.arms.now c.in-Some.place c.in-Some-get.arm.now at c.requires.stand, omega (arith, c.requires.small, arm_smaller c.args.arms.now c.in-Some.place c.in-Some-get.arm.now at))))

pub arms_make-arm_makes-requires-in-Parts : goal.arms_make-arm_makes-requires-in-Parts
arms_make-arm_makes-requires-in-Parts t c =
    let p = plain_of c.args.program.now in
    let tuple = tuple_tree c.args.s.now c.in-Tup.parts c.as_slice.result.now c.in-Tup.is c.as_slice.ensures in
    let at = got c.args.arms.now 0 c.index-arms-0.result (omega arith) c.index-arms-0.is in
    let less = by_key p (reach (to_list (tree_list c.as_slice.result.now)) * 2 ^ 68 + (2 * (length c.args.program.now.procs + 1) + 1)) (beneath (tree_of c.args.s.now) * 2 ^ 68 + (2 * (length c.args.program.now.procs + 1) + 2)) 0 0 (omega arith)
    (omega (arith, tuple_falls (tree_of c.args.s.now) (tree_list c.as_slice.result.now) tuple)) in
    (omega (arith, c.decreases, less), (c.requires.ends, (value_arm_stands p c.args.arms.now 0 c.index-arms-0.result at c.requires.stand, omega (arith, c.requires.small, arm_smaller c.args.arms.now 0 c.index-arms-0.result at))))

pub arms_make-arm_makes-requires-in_default-bind : goal.arms_make-arm_makes-requires-in_default-bind
arms_make-arm_makes-requires-in_default-bind t c =
    let p = plain_of c.args.program.now in
    let at = got c.args.arms.now 0 c.index-arms-0.result (omega arith) c.index-arms-0.is in
    let less = by_key p (reach [] * 2 ^ 68 + (2 * (length c.args.program.now.procs + 1) + 1)) (beneath (tree_of c.args.s.now) * 2 ^ 68 + (2 * (length c.args.program.now.procs + 1) + 2)) 0 0 (omega arith) (omega arith) in
    (omega (arith, c.decreases, less), (c.requires.ends, (value_arm_stands p c.args.arms.now 0 c.index-arms-0.result at c.requires.stand, omega (arith, c.requires.small, arm_smaller c.args.arms.now 0 c.index-arms-0.result at))))

pub arms_make-returns-in-Some-get : goal.arms_make-returns-in-Some-get
arms_make-returns-in-Some-get t c =
    let inner = branch_tree c.args.s.now c.in-Inj.branch c.in-Inj.inner c.get-in-Some-get.result.now c.in-Inj.is c.get-in-Some-get.ensures in
    let at = got c.args.arms.now c.in-Some.place c.in-Some-get.arm.now c.in-Some-get.ensures.lookup.3.0 c.in-Some-get.ensures.lookup.1 in
    λ u m. c.arm_makes.ensures u (branch_made (plain_of c.args.program.now) c.args.arms.now (tree_of c.args.s.now) (tree_of c.get-in-Some-get.result.now) c.in-Inj.branch c.in-Some.place c.in-Some-get.arm.now (to_list (tree_list c.bound.result.now)) u inner (omega arith) at c.bound.ensures m)

pub arms_make-returns-in-None : goal.arms_make-returns-in-None
arms_make-returns-in-None t c =
    let inner = branch_tree c.args.s.now c.in-Inj.branch c.in-Inj.inner c.in-Inj.inner c.in-Inj.is refl in
    λ u m. absurd (branch_unmade (plain_of c.args.program.now) c.args.arms.now (tree_of c.args.s.now) (tree_of c.in-Inj.inner) u c.in-Inj.branch c.in-Some.place inner (omega arith) c.in-None.ensures.lookup.3 m)

pub arms_make-returns-in-Parts : goal.arms_make-returns-in-Parts
arms_make-returns-in-Parts t c =
    let tuple = tuple_tree c.args.s.now c.in-Tup.parts c.as_slice.result.now c.in-Tup.is c.as_slice.ensures in
    let at = got c.args.arms.now 0 c.index-arms-0.result (omega arith) c.index-arms-0.is in
    λ u m. c.arm_makes-in-Parts.ensures u (tuple_made (plain_of c.args.program.now) c.args.arms.now (tree_of c.args.s.now) (tree_list c.as_slice.result.now) c.index-arms-0.result c.in-Parts.field-0 u tuple (omega arith) at c.in-Parts.is m)

pub arms_make-returns-in_default-bind : goal.arms_make-returns-in_default-bind
arms_make-returns-in_default-bind t c =
    let tuple = tuple_tree c.args.s.now c.in-Tup.parts c.in-Tup.parts c.in-Tup.is refl in
    let at = got c.args.arms.now 0 c.index-arms-0.result (omega arith) c.index-arms-0.is in
    λ u m. c.arm_makes-in_default-bind.ensures u (nothing_made (plain_of c.args.program.now) c.requires.ends.program c.args.arms.now (tree_of c.args.s.now) (tree_list c.in-Tup.parts) c.index-arms-0.result u c.requires.stand tuple (omega arith) at c.in_default-bind.not-Parts m)

pub arms_make-returns-then-arms-ne1 : goal.arms_make-returns-then-arms-ne1
arms_make-returns-then-arms-ne1 t c =
    let tuple = tuple_tree c.args.s.now c.in-Tup.parts c.in-Tup.parts c.in-Tup.is refl in
    λ u m. absurd (more_arms_made (plain_of c.args.program.now) c.args.arms.now (tree_of c.args.s.now) (tree_list c.in-Tup.parts) u tuple c.if-arms-ne1.true m)

pub procedure_makes-overflow_sub-left : goal.procedure_makes-overflow_sub-left
procedure_makes-overflow_sub-left t c = omega (arith, some_left (plain_of c.args.program.now) c.args.left c.args.callee c.requires.short)

pub procedure_makes-value_makes-requires : goal.procedure_makes-value_makes-requires
procedure_makes-value_makes-requires t c =
    let p = plain_of c.args.program.now in
    let P = procedure_of c.in-Some.procedure.now in
    let r = result_of c.in-Some-result.made in
    let at = proc_at c.args.program.now _ c.args.callee c.in-Some.procedure.now (ap (λ (h : Held). h.procs) c.program.view_is) c.in-Some.ensures.value in
    let has = result_at c.args.program.now c.args.callee c.in-Some.procedure.now c.in-Some-result.made at c.in-Some-result.is in
    let fits = result_fits p c.requires.ends.program c.args.callee P r at has in
    let small = result_small p c.args.callee P r at has in
    let less = by_key p (reach (to_list (tree_list c.from_ref.result.now)) * 2 ^ 68 + 2 * (c.args.left - 1)) (parts_in (tree_of c.args.s.now) * 2 ^ 68 + 2 * c.args.left) (value_size r.value) 0 small
    (omega (arith, ap (λ ss. reach (to_list (tree_list ss))) c.from_ref.ensures.value, some_parts (tree_of c.args.s.now), some_left p c.args.left c.args.callee c.requires.short)) in
    (omega (arith, c.decreases, less), (c.requires.ends, ((P.on ∷ [], r.on.node, fits.2), (result_short p c.args.left c.args.callee P r.value at fits.3 c.requires.short, small))))

pub procedure_makes-returns-in-Some-result : goal.procedure_makes-returns-in-Some-result
procedure_makes-returns-in-Some-result t c =
    let p = plain_of c.args.program.now in
    let P = procedure_of c.in-Some.procedure.now in
    let r = result_of c.in-Some-result.made in
    let at = proc_at c.args.program.now _ c.args.callee c.in-Some.procedure.now (ap (λ (h : Held). h.procs) c.program.view_is) c.in-Some.ensures.value in
    let has = result_at c.args.program.now c.args.callee c.in-Some.procedure.now c.in-Some-result.made at c.in-Some-result.is in
    λ u m. c.value_makes.ensures u (subst (λ ss. ValueMakes (Makes p) r.value (to_list (tree_list ss)) u) (sym c.from_ref.ensures.value) (makes_value p c.args.callee P r (tree_of c.args.s.now) u at has m))

pub procedure_makes-returns-in-None : goal.procedure_makes-returns-in-None
procedure_makes-returns-in-None t c =
    let P = procedure_of c.in-Some.procedure.now in
    let at = proc_at c.args.program.now _ c.args.callee c.in-Some.procedure.now (ap (λ (h : Held). h.procs) c.program.view_is) c.in-Some.ensures.value in
    λ u m. absurd (no_result (plain_of c.args.program.now) c.args.callee P (tree_of c.args.s.now) u at (ap (λ o. option_map result_of o) c.in-None.is) m)

pub value_makes-procedure_makes-requires : goal.value_makes-procedure_makes-requires
value_makes-procedure_makes-requires t c =
    let p = plain_of c.args.program.now in
    let at = got c.args.vars.now c.in-Call.var c.in-Some-get.s.now c.in-Some-get.ensures.lookup.3.0 c.in-Some-get.ensures.lookup.1 in
    let falls = part_reach (to_list (tree_list c.args.vars.now)) c.in-Call.var (tree_of c.in-Some-get.s.now) (tree_at c.args.vars.now c.in-Call.var c.in-Some-get.s.now at) in
    let less = by_size p (parts_in (tree_of c.in-Some-get.s.now) * 2 ^ 68 + 2 * c.args.left) (reach (to_list (tree_list c.args.vars.now)) * 2 ^ 68 + 2 * c.args.left) 0 (value_size (value_of c.args.value.now)) (omega (arith, falls)) (omega (arith, ap value_size (ap value_of c.in-Call.is))) in
    (omega (arith, c.decreases, less), (c.requires.ends, called_value p c.args.left c.args.value.now c.in-Call.var c.in-Call.callee c.in-Call.is c.requires.short))

pub value_makes-values_make-requires : goal.value_makes-values_make-requires
value_makes-values_make-requires t c =
    let p = plain_of c.args.program.now in
    let form = tuple_form c.args.value.now c.in-Tuple.values c.as_slice.result.now c.in-Tuple.is c.as_slice.ensures in
    let key = reach (to_list (tree_list c.args.vars.now)) * 2 ^ 68 + 2 * c.args.left in
    let less = by_size p key key (values_size (value_list c.as_slice.result.now)) (value_size (value_of c.args.value.now)) (omega arith) (omega (arith, ap value_size form)) in
    (omega (arith, c.decreases, less), (c.requires.ends, (tuple_stands p (value_of c.args.value.now) (value_list c.as_slice.result.now) form c.requires.stands, (tuple_short p c.args.left (value_of c.args.value.now) (value_list c.as_slice.result.now) form c.requires.short, omega (arith, c.requires.small, ap value_size form)))))

pub value_makes-value_makes-requires : goal.value_makes-value_makes-requires
value_makes-value_makes-requires t c =
    let p = plain_of c.args.program.now in
    let form = branch_form c.args.value.now c.in-Branch.number c.in-Branch.inner c.get-in-Branch.result.now c.in-Branch.is c.get-in-Branch.ensures in
    let key = reach (to_list (tree_list c.args.vars.now)) * 2 ^ 68 + 2 * c.args.left in
    let less = by_size p key key (value_size (value_of c.get-in-Branch.result.now)) (value_size (value_of c.args.value.now)) (omega arith) (omega (arith, ap value_size form)) in
    (omega (arith, c.decreases, less), (c.requires.ends, (branch_stands p (value_of c.args.value.now) c.in-Branch.number (value_of c.get-in-Branch.result.now) form c.requires.stands, (branch_short p c.args.left (value_of c.args.value.now) c.in-Branch.number (value_of c.get-in-Branch.result.now) form c.requires.short, omega (arith, c.requires.small, ap value_size form)))))

pub value_makes-arms_make-requires : goal.value_makes-arms_make-requires
value_makes-arms_make-requires t c =
    let p = plain_of c.args.program.now in
    let form = case_form c.args.value.now c.in-Case.var c.in-Case.arms c.as_slice-in-Some-get-2.result.now c.in-Case.is c.as_slice-in-Some-get-2.ensures in
    let at = got c.args.vars.now c.in-Case.var c.in-Some-get-2.s.now c.in-Some-get-2.ensures.lookup.3.0 c.in-Some-get-2.ensures.lookup.1 in
    let falls = part_reach (to_list (tree_list c.args.vars.now)) c.in-Case.var (tree_of c.in-Some-get-2.s.now) (tree_at c.args.vars.now c.in-Case.var c.in-Some-get-2.s.now at) in
    let less = by_key p (beneath (tree_of c.in-Some-get-2.s.now) * 2 ^ 68 + (2 * (length c.args.program.now.procs + 1) + 2)) (reach (to_list (tree_list c.args.vars.now)) * 2 ^ 68 + 2 * c.args.left) 0 (value_size (value_of c.args.value.now)) (omega arith)
    (omega (arith, falls, some_parts (tree_of c.in-Some-get-2.s.now), few c.args.program.now c.requires.ends)) in
    (omega (arith, c.decreases, less), (c.requires.ends, (case_value_stands p (value_of c.args.value.now) c.in-Case.var (value_arm_list c.as_slice-in-Some-get-2.result.now) form c.requires.stands, omega (arith, c.requires.small, ap value_size form))))

pub value_makes-returns-in-Some : goal.value_makes-returns-in-Some
value_makes-returns-in-Some t c =
    let at = got c.args.vars.now c.in-Given.var c.in-Some.s.now c.in-Some.ensures.lookup.3.0 c.in-Some.ensures.lookup.1 in
    λ u m. ok_other c.clone_in.result (λ copy. copy ≡ c.in-Some.s.now) (λ made. tree_of made ≡ u) (λ copy e. ap tree_of e ∙ given_made (Makes (plain_of c.args.program.now)) (value_of c.args.value.now) c.in-Given.var c.args.vars.now c.in-Some.s.now u (ap value_of c.in-Given.is) at m) c.clone_in.ensures

pub value_makes-returns-in-None : goal.value_makes-returns-in-None
value_makes-returns-in-None t c = λ u m. absurd (given_unmade (Makes (plain_of c.args.program.now)) (value_of c.args.value.now) c.in-Given.var c.args.vars.now u (ap value_of c.in-Given.is) c.in-None.ensures.lookup.3 m)

pub value_makes-returns-in-Some-get : goal.value_makes-returns-in-Some-get
value_makes-returns-in-Some-get t c =
    let at = got c.args.vars.now c.in-Call.var c.in-Some-get.s.now c.in-Some-get.ensures.lookup.3.0 c.in-Some-get.ensures.lookup.1 in
    λ u m. c.procedure_makes.ensures u (call_made (Makes (plain_of c.args.program.now)) (value_of c.args.value.now) c.in-Call.var c.in-Call.callee c.args.vars.now c.in-Some-get.s.now u (ap value_of c.in-Call.is) at m)

pub value_makes-returns-in-None-get : goal.value_makes-returns-in-None-get
value_makes-returns-in-None-get t c =
    λ u m. absurd (call_unmade (Makes (plain_of c.args.program.now)) (value_of c.args.value.now) c.in-Call.var c.in-Call.callee c.args.vars.now u (ap value_of c.in-Call.is) c.in-None-get.ensures.lookup.3 m)

pub value_makes-returns-in_ok-parts-in-Tuple : goal.value_makes-returns-in_ok-parts-in-Tuple
value_makes-returns-in_ok-parts-in-Tuple t c =
    let form = tuple_form c.args.value.now c.in-Tuple.values c.as_slice.result.now c.in-Tuple.is c.as_slice.ensures in
    let parts = c.in_ok-parts-in-Tuple.parts in
    λ u m. tuple_value_made (Makes (plain_of c.args.program.now)) (value_of c.args.value.now) (value_list c.as_slice.result.now) (to_list (tree_list c.args.vars.now)) (Tup parts) parts u form (tuple_tree (Tup parts) parts parts refl refl)
    (λ ts k. subst (λ o. IfOk o (λ made. tree_list made ≡ ts)) c.in_ok-parts-in-Tuple.was (c.values_make.ensures ts k)) m

pub value_makes-returns-in_ok-inner-in-Branch : goal.value_makes-returns-in_ok-inner-in-Branch
value_makes-returns-in_ok-inner-in-Branch t c =
    let form = branch_form c.args.value.now c.in-Branch.number c.in-Branch.inner c.get-in-Branch.result.now c.in-Branch.is c.get-in-Branch.ensures in
    let made = c.in_ok-made-in-Branch.made in
    let inner = c.in_ok-inner-in-Branch.inner in
    λ u m. branch_value_made (Makes (plain_of c.args.program.now)) (value_of c.args.value.now) (value_of c.get-in-Branch.result.now) c.in-Branch.number (to_list (tree_list c.args.vars.now)) (Inj c.in-Branch.number inner) inner u form
    (branch_tree (Inj c.in-Branch.number inner) c.in-Branch.number inner inner refl refl)
    (λ v k. ap tree_of c.in_ok-inner-in-Branch.ensures ∙ subst (λ o. IfOk o (λ made. tree_of made ≡ v)) c.in_ok-made-in-Branch.was (c.value_makes.ensures v k)) m

pub value_makes-returns-in-Some-get-2 : goal.value_makes-returns-in-Some-get-2
value_makes-returns-in-Some-get-2 t c =
    let form = case_form c.args.value.now c.in-Case.var c.in-Case.arms c.as_slice-in-Some-get-2.result.now c.in-Case.is c.as_slice-in-Some-get-2.ensures in
    let at = got c.args.vars.now c.in-Case.var c.in-Some-get-2.s.now c.in-Some-get-2.ensures.lookup.3.0 c.in-Some-get-2.ensures.lookup.1 in
    λ u m. c.arms_make.ensures u (case_made (Makes (plain_of c.args.program.now)) (value_of c.args.value.now) c.in-Case.var (value_arm_list c.as_slice-in-Some-get-2.result.now) c.args.vars.now c.in-Some-get-2.s.now u form at m)

pub value_makes-returns-in-None-get-2 : goal.value_makes-returns-in-None-get-2
value_makes-returns-in-None-get-2 t c =
    λ u m. absurd (case_unmade (Makes (plain_of c.args.program.now)) (value_of c.args.value.now) c.in-Case.var (value_arm_list c.in-Case.arms) c.args.vars.now u (case_form c.args.value.now c.in-Case.var c.in-Case.arms c.in-Case.arms c.in-Case.is refl) c.in-None-get-2.ensures.lookup.3 m)

pub values_make-value_makes-requires : goal.values_make-value_makes-requires
values_make-value_makes-requires t c =
    let p = plain_of c.args.program.now in
    let at = got c.args.values.now c.loop-value.value-index c.value-item.result c.loop-value-test.true c.value-item.is in
    let smaller = values_smaller c.args.values.now c.loop-value.value-index c.value-item.result at in
    let key = reach (to_list (tree_list c.args.vars.now)) * 2 ^ 68 + 2 * c.args.left in
    let less = by_size p key key (value_size (value_of c.value-item.result)) (values_size (value_list c.args.values.now)) (omega arith) smaller in (
      omega (arith, c.decreases, less),
      (
        c.requires.ends,
        (
          values_stand p c.args.values.now c.loop-value.value-index c.value-item.result at c.requires.stand,
          (values_short p c.args.left c.args.values.now c.loop-value.value-index c.value-item.result at c.requires.short, omega (arith, c.requires.small, smaller)),
        ),
      ),
    )

pub values_make-loop-value-preserved : goal.values_make-loop-value-preserved
values_make-loop-value-preserved t c =
    made_next (Makes (plain_of c.args.program.now)) c.args.values.now (to_list (tree_list c.args.vars.now)) c.loop-value.value-index c.value-item.result c.in_ok-value_makes.field-0 c.loop-value.parts c.push.new.self c.loop-value-test.true c.value-item.is
    (λ u k. subst (λ o. IfOk o (λ made. tree_of made ≡ u)) c.in_ok-value_makes.was (c.value_makes.ensures u k)) c.in_ok-push.ensures.ok c.loop-value.invariant

pub values_make-returns : goal.values_make-returns
values_make-returns t c = made_end (Makes (plain_of c.args.program.now)) c.args.values.now (to_list (tree_list c.args.vars.now)) c.loop-value.value-index c.loop-value.parts c.loop-value-test.false c.loop-value.invariant
