use Rattle.std.proofs.Common.{[], ◌∷◌}
use Rattle.luo_model.specs.declared.program.Proc.{Proc}
use Rattle.luo_model.specs.View.{body_of}
use Rattle.luo_founded.specs.inner.Wholes.{body_level}
use Rattle.luo_founded.proofs.LevelLoops.{PutSoFar}
use Rattle.luo_founded.proofs.levels.next_wholes.Given as goal

abbrev pub invariant-loop-procedure : goal.invariant-loop-procedure
invariant-loop-procedure l = PutSoFar (λ (P : Proc). body_level l.wholes (body_of P.body) ∷ []) l.procs l.procedure-index [] l.more
