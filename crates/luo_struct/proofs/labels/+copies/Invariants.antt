use Rattle.std.proofs.Common.{◌≡◌, ◌^◌, ◌-◌, min, take}
use Rattle.luo_model.specs.Tree.{all_labels_of}
use Rattle.luo_struct.specs.View.{tree_list}
use Rattle.luo_struct.specs.inner.Passes.{copies_of}
use Rattle.luo_struct.proofs.labels.+copies.Given as goal

abbrev pub invariant-copies_of_all-loop-part : goal.invariant-copies_of_all-loop-part
invariant-copies_of_all-loop-part l = l.copies ≡ min (copies_of l.label (all_labels_of (tree_list (take l.part-index l.parts)))) (2 ^ 64 - 1)
