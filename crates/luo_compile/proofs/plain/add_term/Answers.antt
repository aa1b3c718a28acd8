use Rattle.std.proofs.Common.{ap, refl, arith}
use Rattle.luo_equation.specs.declared.equation.Expr.{Number, Sum, Prod}
use Rattle.luo_equation.proofs.ViewLemmas.{sum_view}
use Rattle.luo_system.specs.Plain.{terms_of}
use Rattle.luo_compile.proofs.CodeLemmas.{one_put, all_put, none_put, no_term, product_term, coll_term, point_term}
use Rattle.luo_compile.proofs.plain.add_term.Goals as goal

pub returns-in_ok-append-in-Sum : goal.returns-in_ok-append-in-Sum
returns-in_ok-append-in-Sum c = all_put terms_of _ _ _ (Sum c.in-Sum.more) c.in-Sum.more c.in-Sum.is (ap terms_of (sum_view c.in-Sum.more)) c.in_ok-append-in-Sum.ensures

pub returns-in_ok-push-in-Prod : goal.returns-in_ok-push-in-Prod
returns-in_ok-push-in-Prod c = one_put terms_of _ _ _ (Prod c.in-Prod.factors) c.in-Prod.is (product_term c.in-Prod.factors) c.in_ok-push-in-Prod.ensures

pub returns-in_ok-push-in-Coll : goal.returns-in_ok-push-in-Coll
returns-in_ok-push-in-Coll c = one_put terms_of _ _ _ _ c.in-Coll.is (coll_term c.in-Coll.kind c.in-Coll.inner c.in-Coll.low c.in-Coll.high) c.in_ok-push-in-Coll.ensures

pub returns-in_ok-push-in-Point : goal.returns-in_ok-push-in-Point
returns-in_ok-push-in-Point c = one_put terms_of _ _ _ _ c.in-Point.is (point_term c.in-Point.kind c.in-Point.inner c.in-Point.low c.in-Point.high c.in-Point.body) c.in_ok-push-in-Point.ensures

pub returns-else-number-ne0 : goal.returns-else-number-ne0
returns-else-number-ne0 c = none_put terms_of _ _ _ (Number c.in-Number.number) c.in-Number.is (no_term c.in-Number.number (let t = c.if-number-ne0.false in omega (arith, t))) refl
