use Rattle.luo_founded.proofs.FactLemmas.{empty_factors_lead_back}
use Rattle.luo_founded.proofs.laws.empty_factors_lead_back.Goals as goal

pub returns : goal.returns
returns c = empty_factors_lead_back
