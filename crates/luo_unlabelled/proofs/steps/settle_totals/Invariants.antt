use Rattle.std.proofs.Common.{slice_index}
use Rattle.luo_unlabelled.specs.inner.Steps.{step_total, Settled}
use Rattle.luo_unlabelled.proofs.steps.settle_totals.Given as goal

abbrev pub invariant-loop-i : goal.invariant-loop-i
invariant-loop-i l = Settled l.steps (step_total l.steps (slice_index l.comp) (slice_index l.body)) l.m l.i l.initial.cells l.cells
