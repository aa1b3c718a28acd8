use Rattle.luo_finite.specs.Laws.{Passes}
use Rattle.luo_finite.proofs.Steps.{or_else-single}
use Rattle.luo_finite.proofs.laws.one_answer.Goals as goal

pub returns : goal.returns
returns c = λ first rest f r. or_else-single (Passes first) (Passes rest) f r
