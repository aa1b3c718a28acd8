use Rattle.luo_model.proofs.TableLemmas.{totals_are_single}
use Rattle.luo_model.proofs.laws.totals_are_single.Goals as goal

pub returns : goal.returns
returns c = totals_are_single
