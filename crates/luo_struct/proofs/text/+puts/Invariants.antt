use Rattle.std.proofs.Common.{◌≡◌, ◌++◌, take}
use Rattle.luo_struct.specs.Text.{followed}
use Rattle.luo_struct.specs.View.{tree_list}
use Rattle.luo_struct.proofs.text.+puts.Given as goal

abbrev pub invariant-put_parts-loop-part : goal.invariant-put_parts-loop-part
invariant-put_parts-loop-part l = l.text.items ≡ l.initial.text.items ++ followed (tree_list (take l.part-index l.rest))
