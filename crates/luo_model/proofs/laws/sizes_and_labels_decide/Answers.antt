use Rattle.luo_model.proofs.OrderFacts.{sizes_and_labels_decide}
use Rattle.luo_model.proofs.laws.sizes_and_labels_decide.Goals as goal

pub returns : goal.returns
returns c = sizes_and_labels_decide
