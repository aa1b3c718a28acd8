use Rattle.luo_counting.proofs.FactLemmas as facts
use Rattle.luo_counting.proofs.laws.stirling_cycles.Goals as goal

pub returns : goal.returns
returns c = facts.stirling_cycles
