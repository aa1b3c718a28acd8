use Rattle.luo_finite.specs.Laws.{Passes, Relates}
use Rattle.luo_finite.proofs.Totals.{Totals-unique}
use Rattle.luo_finite.proofs.laws.one_total.Goals as goal

pub returns : goal.returns
returns c = λ p r s t one a b. Totals-unique (Passes p) (Relates r) s t one a b
