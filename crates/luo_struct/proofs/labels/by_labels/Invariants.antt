use Rattle.std.proofs.Common.{◌-◌, ◌^◌}
use Rattle.luo_struct.specs.View.{tree_of}
use Rattle.luo_struct.proofs.LabelOrder.{SameBeyond}
use Rattle.luo_struct.proofs.labels.by_labels.Given as goal

abbrev pub invariant-loop-label : goal.invariant-loop-label
invariant-loop-label l = SameBeyond (tree_of l.a) (tree_of l.b) l.past

abbrev pub decreases-loop-label : goal.decreases-loop-label
decreases-loop-label l = 2 ^ 32 - l.past
