use Rattle.luo_read.proofs.MemberLemmas.{one_named}
use Rattle.luo_read.proofs.laws.one_structure.Goals as goal

pub returns : goal.returns
returns c = λ p inv x text l t u n m. one_named p inv x text l t u n m
