use Rattle.luo_founded.proofs.OneAnswer.{founded_keeps, first_once}
use Rattle.luo_founded.proofs.laws.first_breach_is_one.Goals as goal

pub returns : goal.returns
returns c = (first_once, λ p e f. founded_keeps p f e)
