use Rattle.luo_model.proofs.TableLemmas.{counts_are_single}
use Rattle.luo_model.proofs.laws.counts_are_single.Goals as goal

pub returns : goal.returns
returns c = counts_are_single
