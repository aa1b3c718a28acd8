use Rattle.std.proofs.Common.{◌≡◌, drop}
use Rattle.luo_answer.specs.inner.Found.{place_from}
use Rattle.luo_answer.proofs.steps.structure.place_of.Given as goal

abbrev pub invariant-loop-f : goal.invariant-loop-f
invariant-loop-f l = place_from 0 l.procs l.name ≡ place_from l.f (drop l.f l.procs) l.name
