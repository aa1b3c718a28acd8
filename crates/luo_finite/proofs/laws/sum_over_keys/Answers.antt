use Rattle.luo_finite.specs.Laws.{Passes}
use Rattle.luo_finite.proofs.Ranges.{Sums-by_key}
use Rattle.luo_finite.proofs.laws.sum_over_keys.Goals as goal

pub returns : goal.returns
returns c = λ test key w t n within each. Sums-by_key (Passes test) key w t n within each
