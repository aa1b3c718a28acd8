use Rattle.luo_meaning.proofs.SourceMeanings as facts
use Rattle.luo_meaning.proofs.laws.cycles_are_charged.Goals as goal

pub returns : goal.returns
returns c = facts.cycles_are_charged
