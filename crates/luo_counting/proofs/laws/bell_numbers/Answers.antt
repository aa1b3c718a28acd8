use Rattle.luo_counting.proofs.FactLemmas as facts
use Rattle.luo_counting.proofs.laws.bell_numbers.Goals as goal

pub returns : goal.returns
returns c = facts.bell
