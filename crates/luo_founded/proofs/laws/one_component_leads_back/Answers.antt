use Rattle.luo_founded.proofs.FactLemmas.{one_component_leads_back}
use Rattle.luo_founded.proofs.laws.one_component_leads_back.Goals as goal

pub returns : goal.returns
returns c = one_component_leads_back
