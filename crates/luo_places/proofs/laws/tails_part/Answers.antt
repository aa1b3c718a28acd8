use Rattle.luo_places.proofs.steps.Tails.{tails_part}
use Rattle.luo_places.proofs.laws.tails_part.Goals as goal

pub returns : goal.returns
returns c = tails_part
