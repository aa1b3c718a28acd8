use Rattle.std.proofs.Common.{[]}
use Rattle.luo_model.specs.View.{plain_of}
use Rattle.luo_engine.proofs.LayLoops.{LaidSoFar, of_procedure}
use Rattle.luo_engine.proofs.sites.sites_laid.Given as goal

abbrev pub invariant-loop-procedure : goal.invariant-loop-procedure
invariant-loop-procedure l = LaidSoFar l.starts (of_procedure (plain_of l.program) l.starts) l.procs l.procedure-index (record { tasks = []; links = [] }) l.laid
