use Rattle.std.proofs.Common.{◌≤◌, ◌-◌}
use Rattle.luo_struct.specs.View.{tree_of}
use Rattle.luo_struct.proofs.WholeLemmas.{HasTo}
use Rattle.luo_struct.proofs.labelling.has_labels.Given as goal

abbrev pub invariant-loop-next : goal.invariant-loop-next
invariant-loop-next l = record { within : l.past ≤ l.count; labels : HasTo (tree_of l.s) l.past }

abbrev pub decreases-loop-next : goal.decreases-loop-next
decreases-loop-next l = l.count - l.past
