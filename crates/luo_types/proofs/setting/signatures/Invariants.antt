use Rattle.std.proofs.Common.{◌≡◌, map, take}
use Rattle.luo_rules.specs.Nodes.{signature_of}
use Rattle.luo_source.specs.View.{proc_def_of}
use Rattle.luo_types.proofs.setting.signatures.Given as goal

abbrev pub invariant-loop-proc : goal.invariant-loop-proc
invariant-loop-proc l = l.made ≡ map (λ p. signature_of l.scheme.names l.scheme.defs.items (proc_def_of p)) (take l.proc-index l.procs)
