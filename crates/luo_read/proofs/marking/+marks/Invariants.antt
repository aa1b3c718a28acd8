use Rattle.std.proofs.Common.{◌≡◌, take}
use Rattle.luo_model.specs.Tree.{all_labels_of}
use Rattle.luo_struct.specs.View.{tree_list}
use Rattle.luo_read.specs.inner.Marks.{mark_all}
use Rattle.luo_read.proofs.marking.+marks.Given as goal

abbrev pub invariant-mark_parts-loop-part : goal.invariant-mark_parts-loop-part
invariant-mark_parts-loop-part l = l.marks ≡ mark_all l.initial.marks (all_labels_of (tree_list (take l.part-index l.parts)))
