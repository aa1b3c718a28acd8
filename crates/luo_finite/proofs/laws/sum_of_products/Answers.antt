use Rattle.luo_finite.specs.Laws.{Passes}
use Rattle.luo_finite.proofs.Products.{Sums-pairs}
use Rattle.luo_finite.proofs.laws.sum_of_products.Goals as goal

pub returns : goal.returns
returns c = λ p q f g s t a b. Sums-pairs (Passes p) (Passes q) f g s t a b
