use Rattle.std.proofs.Common.{◌≡◌, ◌+◌, ◌*◌, ◌++◌, drop, sum_by}
use Rattle.luo_types.specs.inner.Held.{nodes_in}
use Rattle.luo_types.specs.inner.NodeLists.{AllFitAt, nodes_of}
use Rattle.luo_types.proofs.nodes.+nodes.Given as goal

abbrev pub invariant-put_all-loop-expr : goal.invariant-put_all-loop-expr
invariant-put_all-loop-expr l =
    AllFitAt l.scheme.universe l.scheme.names l.spot (drop l.expr-index l.exprs)
    × (l.nodes ++ nodes_of l.scheme.names l.scheme.defs.items l.owner l.spot (drop l.expr-index l.exprs) ≡ l.fn.nodes ++ nodes_of l.scheme.names l.scheme.defs.items l.owner l.fn.at l.exprs)

abbrev pub decreases-put : goal.decreases-put
decreases-put l = 3 * nodes_in l.expr.now + 2

abbrev pub decreases-put_inside : goal.decreases-put_inside
decreases-put_inside l = 3 * nodes_in l.expr.now + 1

abbrev pub decreases-put_all : goal.decreases-put_all
decreases-put_all l = 3 * sum_by nodes_in l.exprs.now + 3
