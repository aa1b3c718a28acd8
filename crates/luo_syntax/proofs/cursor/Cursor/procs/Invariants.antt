use Rattle.std.proofs.Common.{length}
use Rattle.luo_syntax.proofs.ProgramSteps.{ProcsSoFar}
use Rattle.luo_syntax.proofs.cursor.Cursor.procs.Given as goal

abbrev pub invariant-procs : goal.invariant-procs
invariant-procs l = ProcsSoFar l.initial.self l.self l.procs

abbrev pub decreases-procs : goal.decreases-procs
decreases-procs l = length l.self
