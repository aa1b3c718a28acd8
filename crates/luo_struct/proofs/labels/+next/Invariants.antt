use Rattle.std.proofs.Common.{◌≡◌, take}
use Rattle.luo_model.specs.Tree.{all_labels_of}
use Rattle.luo_struct.specs.View.{tree_list}
use Rattle.luo_struct.specs.inner.Passes.{next_above}
use Rattle.luo_struct.proofs.labels.+next.Given as goal

abbrev pub invariant-next_of_all-loop-part : goal.invariant-next_of_all-loop-part
invariant-next_of_all-loop-part l = l.least ≡ next_above l.past (all_labels_of (tree_list (take l.part-index l.parts)))
