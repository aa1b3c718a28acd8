use Rattle.std.proofs.Common.{◌≡◌, ◌∙◌, ◌+◌, drop, sym, ap, subst, arith}
use Rattle.std.proofs.lemmas.List.Sums.{get_or-le-sum_by}
use Rattle.luo_source.specs.View.{expr_of}
use Rattle.luo_rules.specs.Nodes.{behind, nodes_at}
use Rattle.luo_types.specs.inner.Held.{nodes_in}
use Rattle.luo_types.specs.inner.NodeLists.{AllFitAt, nodes_of}
use Rattle.luo_types.proofs.CountLemmas.{counts_of_union, counts_of_product, counts_of_collection}
use Rattle.luo_types.proofs.ExpressionLemmas.{union_breaches, product_breaches}
use Rattle.luo_types.proofs.NodeLemmas.{next_of, nodes_next, union_inside, product_inside, collection_inside, collection_clean}
use Rattle.luo_types.proofs.nodes.+nodes.Goals as goal

pub put_inside-put_all-requires : goal.put_inside-put_all-requires
put_inside-put_all-requires t c =
    let counts = counts_of_union _ _ _ c.in-Union.is c.as_slice.ensures in
    let node = ap (λ s. s.node) c.behind.ensures in
    (omega (arith, c.decreases, counts.nodes), record { room = omega (arith, c.requires.room, counts.nodes, node); clean = union_breaches _ _ _ _ _ c.in-Union.is c.as_slice.ensures ∙ c.requires.clean; small = omega (arith, c.requires.small, counts.bound) })

pub put_inside-returns-in-Union : goal.put_inside-returns-in-Union
put_inside-returns-in-Union t c =
    let scheme = c.args.scheme.now in
    let inside = ap (λ s. nodes_of scheme.names scheme.defs.items c.args.owner s c.as_slice.result.now) c.behind.ensures ∙ union_inside _ _ c.args.owner c.args.at _ _ _ c.in-Union.is c.as_slice.ensures in
    rw (sym inside) c.put_all.ensures

pub put_inside-put_all-requires-in-Product : goal.put_inside-put_all-requires-in-Product
put_inside-put_all-requires-in-Product t c =
    let counts = counts_of_product _ _ _ _ c.in-Product.is c.as_slice-in-Product.ensures in
    let node = ap (λ s. s.node) c.behind-in-Product.ensures in
    (omega (arith, c.decreases, counts.nodes), record { room = omega (arith, c.requires.room, counts.nodes, node); clean = product_breaches _ _ _ _ _ _ c.in-Product.is c.as_slice-in-Product.ensures ∙ c.requires.clean; small = omega (arith, c.requires.small, counts.bound) })

pub put_inside-returns-in-Product : goal.put_inside-returns-in-Product
put_inside-returns-in-Product t c =
    let scheme = c.args.scheme.now in
    let inside = ap (λ s. nodes_of scheme.names scheme.defs.items c.args.owner s c.as_slice-in-Product.result.now) c.behind-in-Product.ensures ∙ product_inside _ _ c.args.owner c.args.at _ _ _ _ c.in-Product.is c.as_slice-in-Product.ensures in
    rw (sym inside) c.put_all-in-Product.ensures

pub put_inside-put-requires : goal.put_inside-put-requires
put_inside-put-requires t c =
    let counts = counts_of_collection _ _ _ _ _ _ c.in-Coll.is c.get.ensures in
    let node = ap (λ s. s.node) c.behind-in-Coll.ensures in
    (omega (arith, c.decreases, counts.nodes), record { room = omega (arith, c.requires.room, counts.nodes, node); clean = collection_clean _ _ _ _ _ _ _ _ c.in-Coll.is c.get.ensures c.requires.clean; small = omega (arith, c.requires.small, counts.greatest) })

pub put_inside-returns-in-Coll : goal.put_inside-returns-in-Coll
put_inside-returns-in-Coll t c =
    let scheme = c.args.scheme.now in
    let inside = ap (λ s. nodes_at scheme.names scheme.defs.items c.args.owner s (expr_of c.get.result.now)) c.behind-in-Coll.ensures ∙ collection_inside _ _ c.args.owner c.args.at _ _ _ _ _ _ c.in-Coll.is c.get.ensures in
    rw (sym inside) c.put.ensures

pub put_all-put-requires : goal.put_all-put-requires
put_all-put-requires t c =
    let next = next_of c.args.scheme.now.universe c.args.scheme.now.names c.loop-expr.spot c.args.exprs.now c.loop-expr.expr-index c.expr-item.result c.loop-expr-test.true c.expr-item.is c.loop-expr.invariant.0 in
    (omega (arith, c.decreases, get_or-le-sum_by nodes_in c.args.exprs.now c.loop-expr.expr-index c.expr-item.result c.loop-expr-test.true, ap nodes_in c.expr-item.is), next.fits)

pub put_all-loop-expr-preserved : goal.put_all-loop-expr-preserved
put_all-loop-expr-preserved t c =
    let universe = c.args.scheme.now.universe in
    let names = c.args.scheme.now.names in
    let next = next_of universe names c.loop-expr.spot c.args.exprs.now c.loop-expr.expr-index c.expr-item.result c.loop-expr-test.true c.expr-item.is c.loop-expr.invariant.0 in
    let counted : c.count_expr.result.nodes ≡ nodes_in c.expr-item.result = omega (arith, next.rest_fits.room, c.count_expr.ensures.nodes) in
    let moved = c.behind-spot.ensures ∙ ap (behind c.loop-expr.spot) counted in (
      subst (λ s. AllFitAt universe names s (drop (c.loop-expr.expr-index + 1) c.args.exprs.now)) (sym moved) next.rest_fits,
      nodes_next _ _ c.args.owner c.loop-expr.spot c.behind-spot.result c.args.exprs.now c.loop-expr.expr-index c.expr-item.result c.loop-expr.nodes c.put.new.nodes c.count_expr.result.nodes c.loop-expr-test.true c.expr-item.is counted c.behind-spot.ensures c.in_ok-put.ensures ∙ c.loop-expr.invariant.1,
    )
