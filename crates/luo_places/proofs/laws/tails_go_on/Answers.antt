use Rattle.luo_places.proofs.steps.Tails.{tails_go_on}
use Rattle.luo_places.proofs.laws.tails_go_on.Goals as goal

pub returns : goal.returns
returns c = λ p nodes last a tail L n t there spread l on room. tails_go_on p nodes last a t tail L n there spread l on room
