use Rattle.std.proofs.Common.{◌≡◌, suc}
use Rattle.luo_rules.specs.inner.Naming.{node_within, node_of}
use Rattle.luo_types.proofs.links.node_of.Given as goal

abbrev pub invariant-loop-named : goal.invariant-loop-named
invariant-loop-named l = node_within l.names l.defs (suc l.steps) l.at ≡ node_of l.names l.defs l.fn.i

abbrev pub decreases-loop-named : goal.decreases-loop-named
decreases-loop-named l = l.steps
