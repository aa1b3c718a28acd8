use Rattle.luo_places.proofs.steps.Trees.{First-union, Last-union}
use Rattle.luo_places.proofs.laws.unions_begin_and_end.Goals as goal

pub returns : goal.returns
returns c = λ p x n L parts room is. (First-union p x n L room parts is, Last-union p x n L room parts is)
