use Rattle.std.proofs.Common.{◌≡◌, drop}
use Rattle.luo_rules.specs.Definitions.{with_definitions}
use Rattle.luo_types.proofs.naming.add_definitions.Given as goal

abbrev pub invariant-loop-i : goal.invariant-loop-i
invariant-loop-i l = with_definitions l.names l.i (drop l.i l.defs) ≡ with_definitions l.fn.names 0 l.defs
