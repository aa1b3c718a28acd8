use Rattle.luo_model.proofs.OrderFacts.{forms_decide}
use Rattle.luo_model.proofs.laws.forms_decide.Goals as goal

pub returns : goal.returns
returns c = forms_decide
