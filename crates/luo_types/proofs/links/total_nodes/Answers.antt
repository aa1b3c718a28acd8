use Rattle.std.proofs.Common.{ℕ, ap, arith}
use Rattle.std.proofs.lemmas.List.Sums.{sum_by_more_le}
use Rattle.luo_rules.specs.Counted.{own_nodes}
use Rattle.luo_rules.specs.Definitions.{Definition}
use Rattle.luo_types.proofs.links.total_nodes.Goals as goal

pub overflow_add-total : goal.overflow_add-total
overflow_add-total c =
    let nodes : Definition → ℕ = λ d. own_nodes d.right in
    omega (arith, sum_by_more_le nodes c.args.defs.now c.loop-def.def-index c.def-item.result c.loop-def-test.true, ap nodes c.def-item.is, ap nodes c.def.view_is, c.count_expr.ensures.nodes)
