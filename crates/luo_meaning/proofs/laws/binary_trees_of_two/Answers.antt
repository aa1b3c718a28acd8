use Rattle.luo_meaning.proofs.SourceMeanings as facts
use Rattle.luo_meaning.proofs.laws.binary_trees_of_two.Goals as goal

pub returns : goal.returns
returns c = facts.binary_trees_of_two
