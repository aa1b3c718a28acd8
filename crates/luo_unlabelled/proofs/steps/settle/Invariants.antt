use Rattle.std.proofs.Common.{slice_index}
use Rattle.luo_unlabelled.specs.inner.Steps.{step_count, Settled}
use Rattle.luo_unlabelled.proofs.steps.settle.Given as goal

abbrev pub invariant-loop-i : goal.invariant-loop-i
invariant-loop-i l = Settled l.steps (step_count l.steps (slice_index l.comp)) l.m l.i l.initial.cells l.cells
