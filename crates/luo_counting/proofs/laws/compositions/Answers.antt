use Rattle.luo_counting.proofs.FactLemmas as facts
use Rattle.luo_counting.proofs.laws.compositions.Goals as goal

pub returns : goal.returns
returns c = facts.compositions
