use Rattle.luo_read.proofs.FactLemmas.{texts_stop}
use Rattle.luo_read.proofs.laws.texts_stop.Goals as goal

pub returns : goal.returns
returns c = texts_stop
