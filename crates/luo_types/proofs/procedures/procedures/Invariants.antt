use Rattle.std.proofs.Common.{drop}
use Rattle.luo_types.proofs.ProceduresSoFar.{ProcsSoFar}
use Rattle.luo_types.proofs.procedures.procedures.Given as goal

abbrev pub invariant-loop-number : goal.invariant-loop-number
invariant-loop-number l = ProcsSoFar l.context.setting.now l.procs (drop l.number l.procs) l.number l.made l.next
