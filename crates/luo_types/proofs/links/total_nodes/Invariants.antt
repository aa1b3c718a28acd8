use Rattle.std.proofs.Common.{◌≡◌, sum_by, take}
use Rattle.luo_rules.specs.Counted.{own_nodes}
use Rattle.luo_types.proofs.links.total_nodes.Given as goal

abbrev pub invariant-loop-def : goal.invariant-loop-def
invariant-loop-def l = l.total ≡ sum_by (λ d. own_nodes d.right) (take l.def-index l.defs)
