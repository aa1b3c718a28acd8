use Rattle.luo_model.proofs.MemberFacts.{no_label_is_skipped}
use Rattle.luo_model.proofs.laws.no_label_is_skipped.Goals as goal

pub returns : goal.returns
returns c = no_label_is_skipped
