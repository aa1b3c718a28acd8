use Rattle.luo_list.proofs.WalkLemmas.{walk_length, walk_at}
use Rattle.luo_list.proofs.laws.walks_go_in_order.Goals as goal

pub returns : goal.returns
returns c = λ d ss w. (walk_length d ss w, λ i s e. walk_at d ss w i s e)
