use Rattle.luo_struct.specs.View.{tree_list}
use Rattle.luo_struct.proofs.NeighbourLemmas.{beside_stands}
use Rattle.luo_struct.proofs.MemberLemmas.{along}
use Rattle.luo_struct.proofs.members.components_stand.Goals as goal

pub returns-in_default : goal.returns-in_default
returns-in_default c = along c.neighbours_stand.result (beside_stands c.args.kind c.in_default.not-Cycle (tree_list c.args.parts.now)) c.neighbours_stand.ensures
