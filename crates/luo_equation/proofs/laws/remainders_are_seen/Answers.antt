use Rattle.luo_equation.proofs.laws.remainders_are_seen.Goals as goal
use Rattle.luo_equation.proofs.ExactFactLemmas.{remainders-seen}

pub returns : goal.returns
returns c = remainders-seen
