use Rattle.luo_model.proofs.MemberFacts.{least_labels_count}
use Rattle.luo_model.proofs.laws.least_labels_count.Goals as goal

pub returns : goal.returns
returns c = least_labels_count
