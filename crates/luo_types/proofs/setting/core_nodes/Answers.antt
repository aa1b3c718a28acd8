use Rattle.std.proofs.Common.{◌∙◌, ◌++◌, ap, arith}
use Rattle.luo_rules.specs.Counted.{own_nodes, greatest_bound}
use Rattle.luo_rules.specs.Definitions.{Definition}
use Rattle.luo_rules.specs.TypeBreaches.{expr_breaches}
use Rattle.luo_rules.specs.Nodes.{nodes_at}
use Rattle.luo_types.proofs.DefinitionLemmas.{next_definition, nodes_from_next}
use Rattle.luo_types.proofs.setting.core_nodes.Goals as goal

pub put-requires : goal.put-requires
put-requires c =
    let s = c.args.scheme.now in
    let inv = c.loop-owner.invariant in
    let next = next_definition s.universe s.names c.loop-owner.node c.as_slice-def-items.result.now c.loop-owner.owner c.def-item.result c.loop-owner-test.true c.def-item.is inv.0 inv.1 inv.2 in
    record {
      room = omega (arith, next.room, ap (λ (d : Definition). own_nodes d.right) c.def.view_is);
      clean = ap (λ (d : Definition). expr_breaches s.universe s.names d.right) c.def.view_is ∙ next.clean;
      small = omega (arith, next.small, ap (λ (d : Definition). greatest_bound d.right) c.def.view_is);
    }

pub loop-owner-preserved : goal.loop-owner-preserved
loop-owner-preserved c =
    let s = c.args.scheme.now in
    let inv = c.loop-owner.invariant in
    let next = next_definition s.universe s.names c.loop-owner.node c.as_slice-def-items.result.now c.loop-owner.owner c.def-item.result c.loop-owner-test.true c.def-item.is inv.0 inv.1 inv.2 in
    let same = ap (λ (d : Definition). own_nodes d.right) c.def.view_is in (
      omega (arith, next.room, c.count_expr.ensures.nodes, same),
      next.clean_rest,
      next.small_rest,
      nodes_from_next s.names s.defs.items c.loop-owner.node c.as_slice-def-items.result.now c.loop-owner.owner c.def-item.result c.loop-owner.nodes c.put.new.nodes c.count_expr.result.nodes c.loop-owner-test.true c.def-item.is
          (omega (arith, next.room, c.count_expr.ensures.nodes, same))
          (c.in_ok-put.ensures ∙ ap (λ (d : Definition). c.loop-owner.nodes ++ nodes_at s.names s.defs.items c.loop-owner.owner (record { node = c.loop-owner.node; place = 0 }) d.right) c.def.view_is) ∙ inv.3,
    )
