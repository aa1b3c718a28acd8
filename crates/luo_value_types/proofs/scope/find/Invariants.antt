use Rattle.std.proofs.Common.{◌≡◌, drop}
use Rattle.luo_rules.specs.Settings.{found_from}
use Rattle.luo_value_types.proofs.scope.find.Given as goal

abbrev pub invariant-loop-i : goal.invariant-loop-i
invariant-loop-i l = found_from 0 l.scope l.name.text ≡ found_from l.i (drop l.i l.scope) l.name.text
