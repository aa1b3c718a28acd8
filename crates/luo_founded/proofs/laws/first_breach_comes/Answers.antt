use Rattle.luo_founded.proofs.SomeAnswer.{founded_or_first}
use Rattle.luo_founded.proofs.laws.first_breach_comes.Goals as goal

pub returns : goal.returns
returns c = founded_or_first
