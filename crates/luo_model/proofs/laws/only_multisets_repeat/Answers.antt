use Rattle.luo_model.proofs.MemberFacts.{only_multisets_repeat}
use Rattle.luo_model.proofs.laws.only_multisets_repeat.Goals as goal

pub returns : goal.returns
returns c = only_multisets_repeat
