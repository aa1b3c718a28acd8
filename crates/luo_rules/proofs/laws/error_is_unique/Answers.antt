use Rattle.luo_rules.proofs.Exclusive.{one-answer}
use Rattle.luo_rules.proofs.laws.error_is_unique.Goals as goal

pub returns : goal.returns
returns c = one-answer
