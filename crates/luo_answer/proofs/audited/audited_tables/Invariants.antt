use Rattle.luo_model.specs.View.{plain_of}
use Rattle.luo_answer.proofs.AuditLemmas.{AreAuditedBefore}
use Rattle.luo_answer.proofs.audited.audited_tables.Given as goal

abbrev pub invariant-loop-f : goal.invariant-loop-f
invariant-loop-f g l = AreAuditedBefore (plain_of l.program) l.last l.f-index l.f-items l.tables
