use Rattle.std.proofs.Common.{drop}
use Rattle.luo_types.proofs.ProceduresSoFar.{NamesSoFar}
use Rattle.luo_types.proofs.procedures.analyses.Given as goal

abbrev pub invariant-loop-name : goal.invariant-loop-name
invariant-loop-name l = NamesSoFar l.setting l.names (drop l.name-index l.names) l.made
