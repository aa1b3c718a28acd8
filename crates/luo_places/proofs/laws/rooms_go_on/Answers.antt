use Rattle.luo_places.proofs.steps.Tails.{room_labels, room_size, room_first, room_last}
use Rattle.luo_places.proofs.laws.rooms_go_on.Goals as goal

pub returns : goal.returns
returns c = λ p a tail L n. (room_labels p a tail L n, room_size p a tail L n, room_first p a tail L n, room_last p a tail L n)
