use Rattle.luo_engine.proofs.FirstLemmas.{no_first}
use Rattle.luo_engine.proofs.laws.none_over_has_no_first.Goals as goal

pub returns : goal.returns
returns c = λ p last fill none e n f. no_first p last fill none e n f
