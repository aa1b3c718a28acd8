use Rattle.std.proofs.Common.{[]}
use Rattle.luo_founded.proofs.LevelLoops.{PutSoFar, of_procedure}
use Rattle.luo_founded.proofs.sites.site_levels.Given as goal

abbrev pub invariant-loop-procedure : goal.invariant-loop-procedure
invariant-loop-procedure l = PutSoFar (of_procedure l.wholes) l.procs l.procedure-index [] l.levels
