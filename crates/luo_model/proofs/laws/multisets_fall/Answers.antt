use Rattle.luo_model.proofs.MemberFacts.{multisets_fall}
use Rattle.luo_model.proofs.laws.multisets_fall.Goals as goal

pub returns : goal.returns
returns c = multisets_fall
