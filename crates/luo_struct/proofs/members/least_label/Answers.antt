use Rattle.std.proofs.Common.{◌∙◌}
use Rattle.luo_struct.specs.View.{tree_of}
use Rattle.luo_struct.proofs.NeighbourLemmas.{least_is}
use Rattle.luo_struct.proofs.members.least_label.Goals as goal

pub returns : goal.returns
returns c = c.next_label.ensures ∙ least_is (tree_of c.args.s.now)
