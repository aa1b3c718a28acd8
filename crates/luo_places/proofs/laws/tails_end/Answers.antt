use Rattle.luo_places.proofs.steps.Tails.{tails_end}
use Rattle.luo_places.proofs.laws.tails_end.Goals as goal

pub returns : goal.returns
returns c = tails_end
