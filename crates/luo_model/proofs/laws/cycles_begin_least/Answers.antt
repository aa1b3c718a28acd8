use Rattle.luo_model.proofs.MemberFacts.{cycles_begin_least}
use Rattle.luo_model.proofs.laws.cycles_begin_least.Goals as goal

pub returns : goal.returns
returns c = cycles_begin_least
