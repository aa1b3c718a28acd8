use Rattle.luo_audit.proofs.AuditLemmas.{rows_agree}
use Rattle.luo_audit.proofs.laws.rows_agree.Goals as goal

pub returns : goal.returns
returns c = λ p q f n. rows_agree p f n q
