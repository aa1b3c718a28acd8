use Rattle.luo_model.proofs.WorkLemmas.{sites_are_apart}
use Rattle.luo_model.proofs.laws.sites_of_programs_are_apart.Goals as goal

pub returns : goal.returns
returns c = sites_are_apart
