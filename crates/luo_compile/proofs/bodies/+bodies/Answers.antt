use Rattle.std.proofs.Common.{ap, ◌∙◌}
use Rattle.luo_model.specs.View.{plain_of, item_of, body_of}
use Rattle.luo_equation.specs.Expr.{no_exprs}
use Rattle.luo_equation.specs.View.{expr_list}
use Rattle.luo_system.specs.Plain.{terms_of}
use Rattle.luo_system.specs.System.{term_expr}
use Rattle.luo_compile.proofs.CodeLemmas.{put_start, put_next}
use Rattle.luo_compile.proofs.BodyLemmas.{same_as, term_made, body_made, case_made, walk_made, walk_done, some_there, none_there, put_arm, no_arm, arms_done}
use Rattle.luo_compile.proofs.bodies.+bodies.Goals as goal
use Rattle.luo_compile.proofs.bodies.+bodies.Goals.{case-in-Some+in_ok-arm_descriptor+in_ok-add_term, case-in_default}

pub body_descriptor-loop-item-preserved : goal.body_descriptor-loop-item-preserved
body_descriptor-loop-item-preserved t c =
    put_next terms_of (λ i. term_expr (plain_of c.args.program.now) c.args.vars.now (item_of i)) c.as_slice-item-items.result.now c.loop-item.item-index c.item-item.result _ _ _ _
    c.loop-item-test.true c.item-item.is c.in_ok-term.ensures c.in_ok-add_term-2.ensures c.loop-item.invariant

pub body_descriptor-loop-item-init : goal.body_descriptor-loop-item-init
body_descriptor-loop-item-init t c = put_start terms_of (λ i. term_expr (plain_of c.args.program.now) c.args.vars.now (item_of i)) c.as_slice-item-items.result.now (expr_list c.add_term.new.terms)

pub body_descriptor-returns : goal.body_descriptor-returns
body_descriptor-returns t c =
    body_made (plain_of c.args.program.now) c.args.whole.now c.args.vars.now c.args.body.now c.as_slice-item-items.result.now _ c.loop-item.item-index _ _ _ _
    c.as_slice-item-items.ensures c.in_ok-own.ensures (ap expr_list c.new-terms.ensures) c.in_ok-add_term.ensures c.loop-item-test.false c.loop-item.invariant c.sum_of_terms.ensures

pub case-loop-i-preserved : goal.case-loop-i-preserved
case-loop-i-preserved t c = elim c.match-get.branch [
  | case-in-Some+in_ok-arm_descriptor+in_ok-add_term w ↦ ap expr_list w.terms-is
      ∙ put_arm (plain_of c.args.program.now) c.stands-standing.result.now c.args.arms.now c.loop-i.i _ c.index-arms-i.result _ no_exprs _ _ c.loop-i-test.true c.index-arms-i.is
      (some_there c.stands-standing.result.now c.loop-i.i w.in-Some.stand.now w.in-Some.ensures.lookup.3.0 w.in-Some.ensures.lookup.1) w.in_ok-arm_descriptor.ensures
      w.in_ok-add_term.ensures c.loop-i.invariant
  | case-in_default w ↦ ap expr_list w.terms-is ∙ no_arm (plain_of c.args.program.now) c.stands-standing.result.now c.args.arms.now c.loop-i.i no_exprs _
      (none_there c.stands-standing.result.now c.loop-i.i w.in_default.ensures.lookup.0) c.loop-i.invariant
]

pub case-returns : goal.case-returns
case-returns t c =
    arms_done (plain_of c.args.program.now) c.args.on c.stands-standing.result.now c.args.arms.now c.loop-i.i _ _ c.stands-standing.ensures c.loop-i-test.false c.loop-i.invariant
    c.sum_of_terms.ensures

pub item_descriptor-returns-in-Case : goal.item_descriptor-returns-in-Case
item_descriptor-returns-in-Case t c =
    same_as c.case.result _ _ (case_made (plain_of c.args.program.now) c.args.vars.now c.args.item.now c.in-Case.var c.in-Case.arms c.as_slice.result.now c.in-Case.site
    c.part_at.result c.in-Case.is c.as_slice.ensures c.part_at.ensures) c.case.ensures

pub item_descriptor-returns-in-Forall : goal.item_descriptor-returns-in-Forall
item_descriptor-returns-in-Forall t c =
    same_as c.walk.result _ _ (walk_made (plain_of c.args.program.now) c.args.vars.now c.args.item.now c.in-Forall.var c.in-Forall.body c.in-Forall.body_site c.in-Forall.site
    c.part_at-in-Forall.result c.in-Forall.is c.part_at-in-Forall.ensures) c.walk.ensures

pub term-returns : goal.term-returns
term-returns t c =
    term_made (plain_of c.args.program.now) c.args.vars.now (item_of c.args.item.now) _ _ _ _ _ _ c.in_ok-item_descriptor.ensures c.var_of.ensures
    (ap expr_list c.new-factors.ensures) c.in_ok-add_factor.ensures c.in_ok-add_others.ensures
    c.product_of_factors.ensures

pub walk-returns-in_ok-inner-in-Some-Coll : goal.walk-returns-in_ok-inner-in-Some-Coll
walk-returns-in_ok-inner-in-Some-Coll t c =
    same_as c.walk_over.result _ _
    (walk_done (plain_of c.args.program.now) c.args.on (body_of c.args.inside.now) c.in-Some-Coll.field-0.now c.in-Some-Coll.kind c.in-Some-Coll.part c.in-Some-Coll.low
    c.in-Some-Coll.high _ _ c.in-Some-Coll.ensures.some c.in-Some-Coll.field-0-is
    c.in_ok-inner-in-Some-Coll.ensures c.in_ok-marked-in-Some-Coll.ensures) c.walk_over.ensures
