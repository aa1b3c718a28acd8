use Rattle.std.proofs.Common.{◌≡◌, map, drop}
use Rattle.luo_rules.specs.Definitions.{with_procedures}
use Rattle.luo_source.specs.View.{proc_def_of}
use Rattle.luo_types.proofs.naming.add_procedures.Given as goal

abbrev pub invariant-loop-f : goal.invariant-loop-f
invariant-loop-f l = with_procedures l.names l.f (map proc_def_of (drop l.f l.procs)) ≡ with_procedures l.fn.names 0 (map proc_def_of l.procs)
