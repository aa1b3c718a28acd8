use Rattle.std.proofs.Common.{◌∙◌, sym}
use Rattle.luo_types.proofs.LinkLemmas.{node_next}
use Rattle.luo_types.proofs.links.node_of.Goals as goal

pub loop-named-preserved : goal.loop-named-preserved
loop-named-preserved c = node_next c.args.names.now c.args.defs.now c.loop-named.at c.in-Some.named c.loop-named.steps (sym c.in-Some.ensures) c.if-steps-eq0.false ∙ c.loop-named.invariant
