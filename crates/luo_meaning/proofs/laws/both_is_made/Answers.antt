use Rattle.luo_meaning.proofs.SourceMeanings as facts
use Rattle.luo_meaning.proofs.laws.both_is_made.Goals as goal

pub returns : goal.returns
returns c = facts.both_is_made
