use Rattle.std.proofs.Common.{length}
use Rattle.luo_syntax.proofs.ProgramSteps.{AnalysesSoFar}
use Rattle.luo_syntax.proofs.cursor.Cursor.analyses.Given as goal

abbrev pub invariant-analyses : goal.invariant-analyses
invariant-analyses l = AnalysesSoFar l.initial.self l.self l.analyses

abbrev pub decreases-analyses : goal.decreases-analyses
decreases-analyses l = length l.self
