use Rattle.std.proofs.Common.{slice_index}
use Rattle.luo_labelled.specs.inner.Steps.{Settling, step_count}
use Rattle.luo_labelled.proofs.rows.settle_counts.Given as goal

abbrev pub invariant-loop-i : goal.invariant-loop-i
invariant-loop-i l = Settling l.steps (step_count l.steps l.fn.kind (slice_index l.comp)) l.m l.i l.initial.cells l.cells
