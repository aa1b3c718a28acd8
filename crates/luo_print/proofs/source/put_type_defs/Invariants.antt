use Rattle.std.proofs.Common.{◌≡◌, ◌++◌, take, map, flat_map}
use Rattle.luo_source.specs.View.{type_def_of}
use Rattle.luo_print.specs.CanonicalTypes.{type_def_line}
use Rattle.luo_print.proofs.source.put_type_defs.Given as goal

abbrev pub invariant-loop-def : goal.invariant-loop-def
invariant-loop-def l = l.text.items ≡ l.fn.text.items ++ flat_map type_def_line (map type_def_of (take l.def-index l.defs))
