use Rattle.std.proofs.Common.{◌≡◌, drop}
use Rattle.luo_rules.specs.Patterns.{is_among}
use Rattle.luo_value_types.proofs.patterns.is_among.Given as goal

abbrev pub invariant-loop-name : goal.invariant-loop-name
invariant-loop-name l = is_among l.text l.names ≡ is_among l.text (drop l.name-index l.names)
