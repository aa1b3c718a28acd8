use Rattle.std.proofs.Common.{◌≡◌, drop}
use Rattle.luo_rules.specs.Definitions.{with_measures}
use Rattle.luo_types.proofs.naming.add_measures.Given as goal

abbrev pub invariant-loop-number : goal.invariant-loop-number
invariant-loop-number l = with_measures l.names l.number (drop l.number l.measures) ≡ with_measures l.fn.names 0 l.measures
