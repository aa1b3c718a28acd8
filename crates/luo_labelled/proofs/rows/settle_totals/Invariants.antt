use Rattle.std.proofs.Common.{slice_index}
use Rattle.luo_labelled.specs.inner.Steps.{Settling, step_total}
use Rattle.luo_labelled.proofs.rows.settle_totals.Given as goal

abbrev pub invariant-loop-i : goal.invariant-loop-i
invariant-loop-i l = Settling l.steps (step_total l.steps l.fn.kind (slice_index l.comp) (slice_index l.body)) l.m l.i l.initial.totals l.totals
