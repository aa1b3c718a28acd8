use Rattle.std.proofs.Common.{◌≡◌, flat_map, take}
use Rattle.luo_rules.specs.Definitions.{values}
use Rattle.luo_types.proofs.definitions.measures.Given as goal

abbrev pub invariant-loop-def : goal.invariant-loop-def
invariant-loop-def l = l.all.items ≡ flat_map values (take l.def-index l.defs)
