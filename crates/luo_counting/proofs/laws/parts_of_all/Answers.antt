use Rattle.luo_counting.proofs.FactLemmas as facts
use Rattle.luo_counting.proofs.laws.parts_of_all.Goals as goal

pub returns : goal.returns
returns c = facts.parts_of_all
