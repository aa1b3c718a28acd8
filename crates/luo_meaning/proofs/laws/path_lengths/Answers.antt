use Rattle.luo_meaning.proofs.SourceMeanings as facts
use Rattle.luo_meaning.proofs.laws.path_lengths.Goals as goal

pub returns : goal.returns
returns c = facts.path_lengths
