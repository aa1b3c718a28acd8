use Rattle.luo_list.proofs.WalkLemmas.{walk_stretch}
use Rattle.luo_list.proofs.laws.walks_are_stretches.Goals as goal

pub returns : goal.returns
returns c = λ d ss l o w. walk_stretch d ss l o w
