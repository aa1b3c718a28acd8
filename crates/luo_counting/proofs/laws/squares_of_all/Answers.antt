use Rattle.luo_counting.proofs.FactLemmas as facts
use Rattle.luo_counting.proofs.laws.squares_of_all.Goals as goal

pub returns : goal.returns
returns c = facts.squares_of_all
