use Rattle.luo_finite.proofs.laws.first_circle_is_named.Goals as goal
use Rattle.luo_finite.proofs.CircleFacts.{first-circle_named}

pub returns : goal.returns
returns c = first-circle_named
