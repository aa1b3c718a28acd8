use Rattle.std.proofs.Common.{◌≡◌, take, map}
use Rattle.luo_model.specs.Scopes.Stands.{inside}
use Rattle.luo_model.specs.View.{plain_of, item_of}
use Rattle.luo_model.specs.Lists.{arm_list}
use Rattle.luo_equation.specs.View.{expr_list}
use Rattle.luo_system.specs.Plain.{join_exprs, terms_of, opened}
use Rattle.luo_system.specs.System.{exprs_of, term_expr, arms_exprs}
use Rattle.luo_compile.proofs.bodies.+bodies.Given as goal

abbrev pub invariant-body_descriptor-loop-item : goal.invariant-body_descriptor-loop-item
invariant-body_descriptor-loop-item l = expr_list l.terms
    ≡ join_exprs (expr_list l.initial.terms) (opened terms_of (exprs_of (λ i. term_expr (plain_of l.program) l.vars (item_of i)) (take l.item-index l.item-items)))

abbrev pub invariant-case-loop-i : goal.invariant-case-loop-i
invariant-case-loop-i l = expr_list l.terms ≡ opened terms_of (arms_exprs (plain_of l.program) (map inside l.standing) (arm_list (take l.i l.arms)))
