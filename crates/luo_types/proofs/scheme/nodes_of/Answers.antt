use Rattle.luo_rules.specs.inner.Naming.{node_of}
use Rattle.luo_types.proofs.ListLemmas.{each_more}
use Rattle.luo_types.proofs.scheme.nodes_of.Goals as goal

pub loop-i-preserved : goal.loop-i-preserved
loop-i-preserved c = each_more (node_of c.args.names.now c.args.defs.now) _ _ _ _ c.loop-i.invariant.0 c.loop-i.invariant.1 c.node_of.ensures c.in_ok-push.ensures.items
