use Rattle.std.proofs.Common.{◌≡◌, [], take, drop}
use Rattle.luo_rules.specs.Patterns.{repeated}
use Rattle.luo_value_types.proofs.patterns.without_repeats.Given as goal

abbrev pub invariant-loop-i : goal.invariant-loop-i
invariant-loop-i l = repeated [] l.names ≡ repeated (take l.i l.names) (drop l.i l.names)
