use Rattle.std.proofs.Common.{◌≡◌, ◌+◌, drop}
use Rattle.luo_rules.specs.TypeBreaches.{first_circle}
use Rattle.luo_types.proofs.definition_check.first_circle.Given as goal

abbrev pub invariant-loop-k : goal.invariant-loop-k
invariant-loop-k l = first_circle l.names l.defs (l.first + l.k) (drop l.k l.owners) ≡ first_circle l.names l.defs l.first l.owners
