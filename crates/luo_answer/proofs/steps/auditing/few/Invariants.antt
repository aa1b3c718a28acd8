use Rattle.std.proofs.Common.{take}
use Rattle.luo_model.specs.View.{plain_of}
use Rattle.luo_answer.proofs.AuditLemmas.{AreAllFew}
use Rattle.luo_answer.proofs.steps.auditing.few.Given as goal

abbrev pub invariant-loop-f : goal.invariant-loop-f
invariant-loop-f l = AreAllFew (plain_of l.program) l.last (take l.f-index l.f-items)
