use Rattle.luo_audit.proofs.AuditLemmas.{sums_add}
use Rattle.luo_audit.proofs.laws.sums_add_up.Goals as goal

pub returns : goal.returns
returns c = λ p q f n workers sums t. sums_add p f n q workers sums t
