use Rattle.std.proofs.Common.{ap, refl, arith}
use Rattle.luo_equation.specs.declared.equation.Expr.{Number, Sum, Prod}
use Rattle.luo_equation.proofs.ViewLemmas.{product_view}
use Rattle.luo_system.specs.Plain.{factors_of}
use Rattle.luo_compile.proofs.CodeLemmas.{one_put, all_put, none_put, no_factor, sum_factor, coll_factor, point_factor}
use Rattle.luo_compile.proofs.plain.add_factor.Goals as goal

pub returns-in_ok-append-in-Prod : goal.returns-in_ok-append-in-Prod
returns-in_ok-append-in-Prod c = all_put factors_of _ _ _ (Prod c.in-Prod.more) c.in-Prod.more c.in-Prod.is (ap factors_of (product_view c.in-Prod.more)) c.in_ok-append-in-Prod.ensures

pub returns-in_ok-push-in-Sum : goal.returns-in_ok-push-in-Sum
returns-in_ok-push-in-Sum c = one_put factors_of _ _ _ (Sum c.in-Sum.terms) c.in-Sum.is (sum_factor c.in-Sum.terms) c.in_ok-push-in-Sum.ensures

pub returns-in_ok-push-in-Coll : goal.returns-in_ok-push-in-Coll
returns-in_ok-push-in-Coll c = one_put factors_of _ _ _ _ c.in-Coll.is (coll_factor c.in-Coll.kind c.in-Coll.inner c.in-Coll.low c.in-Coll.high) c.in_ok-push-in-Coll.ensures

pub returns-in_ok-push-in-Point : goal.returns-in_ok-push-in-Point
returns-in_ok-push-in-Point c = one_put factors_of _ _ _ _ c.in-Point.is (point_factor c.in-Point.kind c.in-Point.inner c.in-Point.low c.in-Point.high c.in-Point.body) c.in_ok-push-in-Point.ensures

pub returns-else-number-ne1 : goal.returns-else-number-ne1
returns-else-number-ne1 c = none_put factors_of _ _ _ (Number c.in-Number.number) c.in-Number.is (no_factor c.in-Number.number (let t = c.if-number-ne1.false in omega (arith, t))) refl
