use Rattle.std.proofs.Common.{◌≡◌, drop}
use Rattle.luo_rules.specs.TypeBreaches.{measures_breaches}
use Rattle.luo_types.proofs.definition_check.check_measures.Given as goal

abbrev pub invariant-loop-number : goal.invariant-loop-number
invariant-loop-number l = measures_breaches l.names l.number (drop l.number l.measures) ≡ measures_breaches l.names 0 l.measures
