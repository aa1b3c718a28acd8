use Rattle.std.proofs.Common.{length}
use Rattle.luo_syntax.proofs.ProgramSteps.{TypesSoFar}
use Rattle.luo_syntax.proofs.cursor.Cursor.types.Given as goal

abbrev pub invariant-types : goal.invariant-types
invariant-types l = TypesSoFar l.initial.self l.self l.types

abbrev pub decreases-types : goal.decreases-types
decreases-types l = length l.self
