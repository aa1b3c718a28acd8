use Rattle.std.proofs.Common.{◌≡◌, flat_map, take}
use Rattle.luo_types.specs.inner.Held.{copies_of}
use Rattle.luo_types.proofs.definitions.definitions.Given as goal

abbrev pub invariant-loop-def : goal.invariant-loop-def
invariant-loop-def l = l.all.items ≡ flat_map copies_of (take l.def-index l.types)
