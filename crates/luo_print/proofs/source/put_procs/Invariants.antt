use Rattle.std.proofs.Common.{◌≡◌, ◌++◌, take, map, flat_map}
use Rattle.luo_source.specs.View.{proc_def_of}
use Rattle.luo_print.specs.Canonical.{proc_text}
use Rattle.luo_print.proofs.source.put_procs.Given as goal

abbrev pub invariant-loop-def : goal.invariant-loop-def
invariant-loop-def l = l.text.items ≡ l.fn.text.items ++ flat_map proc_text (map proc_def_of (take l.def-index l.defs))
