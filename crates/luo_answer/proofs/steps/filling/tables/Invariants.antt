use Rattle.luo_answer.specs.inner.Filled.{IsFilledTo}
use Rattle.luo_answer.proofs.steps.filling.tables.Given as goal

abbrev pub invariant-loop-i : goal.invariant-loop-i
invariant-loop-i l = IsFilledTo l.program l.fn.fill l.last l._i l.engine
