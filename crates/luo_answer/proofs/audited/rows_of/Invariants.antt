use Rattle.luo_model.specs.View.{plain_of}
use Rattle.luo_answer.proofs.AuditLemmas.{AreAuditedTo}
use Rattle.luo_answer.proofs.audited.rows_of.Given as goal

abbrev pub invariant-loop-n : goal.invariant-loop-n
invariant-loop-n g l = AreAuditedTo (plain_of l.program) l.f l.n l.rows
