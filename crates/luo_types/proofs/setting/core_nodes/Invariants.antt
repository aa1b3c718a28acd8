use Rattle.std.proofs.Common.{◌≡◌, ◌+◌, ◌≤◌, [], ◌++◌, drop, flat_map, sum_by}
use Rattle.luo_num.specs.declared.limits.TheConstants.{BOUND_LIMIT, NODE_LIMIT}
use Rattle.luo_types.specs.Counted.{own_nodes, greatest_bound, greatest_by}
use Rattle.luo_types.specs.TypeBreaches.{expr_breaches}
use Rattle.luo_types.specs.Nodes.{nodes_from}
use Rattle.luo_types.proofs.setting.core_nodes.Given as goal

abbrev pub invariant-loop-owner : goal.invariant-loop-owner
invariant-loop-owner l =
    (l.node + sum_by (λ d. own_nodes d.right) (drop l.owner l.def-items) ≤ NODE_LIMIT)
    × (flat_map (λ d. expr_breaches l.scheme.universe l.scheme.names d.right) (drop l.owner l.def-items) ≡ [])
    × (greatest_by (λ d. greatest_bound d.right) (drop l.owner l.def-items) ≤ BOUND_LIMIT)
    × (l.nodes ++ nodes_from l.scheme.names l.scheme.defs.items l.owner l.node (drop l.owner l.def-items) ≡ nodes_from l.scheme.names l.scheme.defs.items 0 0 l.scheme.defs.items)
