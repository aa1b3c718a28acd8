use Rattle.luo_binom.proofs.RowLemmas.{few_are_within}
use Rattle.luo_binom.proofs.laws.few_are_within.Goals as goal

pub returns : goal.returns
returns c = few_are_within
