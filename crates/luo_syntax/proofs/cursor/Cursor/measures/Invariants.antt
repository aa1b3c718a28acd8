use Rattle.std.proofs.Common.{length}
use Rattle.luo_syntax.proofs.ProgramSteps.{MeasuresSoFar}
use Rattle.luo_syntax.proofs.cursor.Cursor.measures.Given as goal

abbrev pub invariant-measures : goal.invariant-measures
invariant-measures l = MeasuresSoFar l.initial.self l.self l.measures

abbrev pub decreases-measures : goal.decreases-measures
decreases-measures l = length l.self
