use Rattle.luo_places.proofs.steps.Trees.{Next-branch, Next-union}
use Rattle.luo_places.proofs.laws.unions_go_on.Goals as goal

pub returns : goal.returns
returns c = λ p x n L parts room is. (Next-branch p x n L room parts is, Next-union p x n L room parts is)
