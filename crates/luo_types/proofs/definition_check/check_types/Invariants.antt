use Rattle.std.proofs.Common.{◌≡◌, map, drop, take, sum_by, length}
use Rattle.luo_source.specs.View.{type_def_of}
use Rattle.luo_rules.specs.TypeBreaches.{types_breaches}
use Rattle.luo_types.proofs.definition_check.check_types.Given as goal

abbrev pub invariant-loop-def : goal.invariant-loop-def
invariant-loop-def l =
    (l.first ≡ sum_by (λ d. length d.names) (take l.def-index l.types))
    × (types_breaches l.checker.universe l.checker.names.now l.defs l.first (map type_def_of (drop l.def-index l.types)) ≡ types_breaches l.checker.universe l.checker.names.now l.defs 0 (map type_def_of l.types))
