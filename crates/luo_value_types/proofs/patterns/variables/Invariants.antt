use Rattle.std.proofs.Common.{◌≡◌, ◌++◌, drop}
use Rattle.luo_rules.specs.Patterns.{variables}
use Rattle.luo_value_types.proofs.patterns.variables.Given as goal

abbrev pub invariant-loop-i : goal.invariant-loop-i
invariant-loop-i l = variables l.names l.parts ≡ l.made ++ variables (drop l.i l.names) (drop l.i l.parts)
