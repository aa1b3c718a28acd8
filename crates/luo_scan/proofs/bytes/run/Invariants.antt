use Rattle.std.proofs.Common.{take}
use Rattle.std.specs.List.{AllByRecursion}
use Rattle.luo_scan.specs.Prefixes.{IsOf}
use Rattle.luo_scan.proofs.bytes.run.Given as goal

abbrev pub invariant-loop-count : goal.invariant-loop-count
invariant-loop-count l = AllByRecursion (IsOf l.class) (take l.count l.text)
