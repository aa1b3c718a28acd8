use Rattle.luo_model.proofs.MemberFacts.{other_labels_are_carried}
use Rattle.luo_model.proofs.laws.other_labels_are_carried.Goals as goal

pub returns : goal.returns
returns c = other_labels_are_carried
