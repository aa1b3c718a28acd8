use Rattle.std.proofs.Common.{◌≡◌, ◌+◌, ◌≤◌, ◌++◌, drop, sum_by}
use Rattle.luo_num.specs.declared.limits.TheConstants.{NODE_LIMIT}
use Rattle.luo_types.specs.inner.Held.{nodes_in}
use Rattle.luo_types.specs.inner.NodeLists.{parts_of}
use Rattle.luo_types.proofs.scheme.Scheme.parts.Given as goal

abbrev pub invariant-loop-expr : goal.invariant-loop-expr
invariant-loop-expr l =
    (l.spot.node + sum_by nodes_in (drop l.expr-index l.exprs) ≤ NODE_LIMIT)
    × (l.parts ++ parts_of l.self.names l.self.defs.items l.spot (drop l.expr-index l.exprs) ≡ parts_of l.self.names l.self.defs.items l.fn.at l.exprs)
