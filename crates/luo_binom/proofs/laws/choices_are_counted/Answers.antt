use Rattle.std.proofs.Common.{length}
use Rattle.luo_finite.specs.Binomial.{choose}
use Rattle.luo_finite.specs.Places.{IsChoice}
use Rattle.luo_finite.proofs.Sums.{Counts-from}
use Rattle.luo_finite.proofs.Choices.{choices_counted}
use Rattle.luo_binom.proofs.laws.choices_are_counted.Goals as goal

pub returns : goal.returns
returns c = λ L k r. Counts-from (IsChoice L k) (choose (length L) k) (choices_counted L k r)
