use Rattle.std.proofs.Common.{◌≡◌, ◌+◌, drop}
use Rattle.luo_rules.specs.TypeBreaches.{new_types}
use Rattle.luo_types.proofs.definition_check.check_new_types.Given as goal

abbrev pub invariant-loop-k : goal.invariant-loop-k
invariant-loop-k l = new_types l.names (l.first + l.k) (drop l.k l.owners) ≡ new_types l.names l.first l.owners
