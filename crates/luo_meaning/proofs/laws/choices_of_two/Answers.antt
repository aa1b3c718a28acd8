use Rattle.luo_meaning.proofs.SourceMeanings as facts
use Rattle.luo_meaning.proofs.laws.choices_of_two.Goals as goal

pub returns : goal.returns
returns c = facts.choices_of_two
