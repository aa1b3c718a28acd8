use Rattle.std.proofs.Common.{◌≡◌, ℕ, ◌<◌, length, Some, slice_get}
use Rattle.luo_rules.specs.inner.Naming.{node_of}
use Rattle.luo_types.proofs.scheme.nodes_of.Given as goal

abbrev pub invariant-loop-i : goal.invariant-loop-i
invariant-loop-i l = (length l.nodes.items ≡ l.i) × ((k : ℕ) → k < l.i → slice_get l.nodes.items k ≡ Some (node_of l.names l.defs k))
