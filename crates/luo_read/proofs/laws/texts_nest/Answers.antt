use Rattle.luo_read.proofs.FactLemmas.{texts_nest}
use Rattle.luo_read.proofs.laws.texts_nest.Goals as goal

pub returns : goal.returns
returns c = texts_nest
