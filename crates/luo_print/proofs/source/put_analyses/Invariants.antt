use Rattle.std.proofs.Common.{◌≡◌, ◌++◌, take, flat_map}
use Rattle.luo_print.specs.Canonical.{analyze_line}
use Rattle.luo_print.proofs.source.put_analyses.Given as goal

abbrev pub invariant-loop-name : goal.invariant-loop-name
invariant-loop-name l = l.text.items ≡ l.fn.text.items ++ flat_map analyze_line (take l.name-index l.names)
