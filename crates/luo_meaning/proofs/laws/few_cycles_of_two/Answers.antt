use Rattle.luo_meaning.proofs.SourceMeanings as facts
use Rattle.luo_meaning.proofs.laws.few_cycles_of_two.Goals as goal

pub returns : goal.returns
returns c = facts.few_cycles_of_two
