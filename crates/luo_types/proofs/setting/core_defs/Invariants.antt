use Rattle.std.proofs.Common.{◌≡◌, ◌+◌, ◌≤◌, ◌++◌, drop, sum_by}
use Rattle.luo_num.specs.declared.limits.TheConstants.{NODE_LIMIT}
use Rattle.luo_types.specs.Counted.{own_nodes}
use Rattle.luo_types.specs.Nodes.{defs_from}
use Rattle.luo_types.proofs.setting.core_defs.Given as goal

abbrev pub invariant-loop-def : goal.invariant-loop-def
invariant-loop-def l =
    (l.node + sum_by (λ d. own_nodes d.right) (drop l.def-index l.def-items) ≤ NODE_LIMIT)
    × (l.defs ++ defs_from l.scheme.names l.scheme.defs.items l.node (drop l.def-index l.def-items) ≡ defs_from l.scheme.names l.scheme.defs.items 0 l.scheme.defs.items)
