use Rattle.luo_finite.specs.Laws.{Relates}
use Rattle.luo_finite.proofs.Pairwise.{pairwise_from_neighbours}
use Rattle.luo_finite.proofs.laws.neighbours_decide.Goals as goal

pub returns : goal.returns
returns c = λ r xs transitive h. pairwise_from_neighbours (Relates r) xs transitive h
