use Rattle.std.proofs.Common.{◌≡◌, [], OnOk, IfErr, subst}
use Rattle.luo_rules.specs.Breaches.{StopsAt}
use Rattle.luo_types.proofs.ExpressionLemmas.{union_breaches, product_breaches, collection_breaches}
use Rattle.luo_types.proofs.expressions.Checker.+expressions.Goals as goal

pub expr-returns-in-Union-clause-ok : goal.expr-returns-in-Union-clause-ok
expr-returns-in-Union-clause-ok t c = subst (λ bs. OnOk c.exprs.result (bs ≡ [])) (union_breaches _ _ _ _ _ c.in-Union.is c.as_slice.ensures) c.exprs.ensures.ok

pub expr-returns-in-Union-clause-stops : goal.expr-returns-in-Union-clause-stops
expr-returns-in-Union-clause-stops t c = subst (λ bs. IfErr c.exprs.result (λ s. StopsAt bs s)) (union_breaches _ _ _ _ _ c.in-Union.is c.as_slice.ensures) c.exprs.ensures.stops

pub expr-returns-in-Product-clause-ok : goal.expr-returns-in-Product-clause-ok
expr-returns-in-Product-clause-ok t c = subst (λ bs. OnOk c.exprs-in-Product.result (bs ≡ [])) (product_breaches _ _ _ _ _ _ c.in-Product.is c.as_slice-in-Product.ensures) c.exprs-in-Product.ensures.ok

pub expr-returns-in-Product-clause-stops : goal.expr-returns-in-Product-clause-stops
expr-returns-in-Product-clause-stops t c = subst (λ bs. IfErr c.exprs-in-Product.result (λ s. StopsAt bs s)) (product_breaches _ _ _ _ _ _ c.in-Product.is c.as_slice-in-Product.ensures) c.exprs-in-Product.ensures.stops

pub expr-returns-in-Coll-clause-ok : goal.expr-returns-in-Coll-clause-ok
expr-returns-in-Coll-clause-ok t c = subst (λ bs. OnOk c.collection.result (bs ≡ [])) (collection_breaches _ _ _ _ _ _ _ _ c.in-Coll.is c.get.ensures) c.collection.ensures.ok

pub expr-returns-in-Coll-clause-stops : goal.expr-returns-in-Coll-clause-stops
expr-returns-in-Coll-clause-stops t c = subst (λ bs. IfErr c.collection.result (λ s. StopsAt bs s)) (collection_breaches _ _ _ _ _ _ _ _ c.in-Coll.is c.get.ensures) c.collection.ensures.stops
