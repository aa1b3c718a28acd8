use Rattle.luo_sample.proofs.Known.{words}
use Rattle.luo_sample.proofs.laws.words_are_published.Goals as goal

pub returns : goal.returns
returns c = words
