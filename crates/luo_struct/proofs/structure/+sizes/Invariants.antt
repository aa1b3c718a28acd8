use Rattle.std.proofs.Common.{◌≡◌, ◌^◌, ◌-◌, min, take}
use Rattle.luo_model.specs.Tree.{sizes_of}
use Rattle.luo_struct.specs.View.{tree_list}
use Rattle.luo_struct.proofs.structure.+sizes.Given as goal

abbrev pub invariant-sum_of_sizes-loop-part : goal.invariant-sum_of_sizes-loop-part
invariant-sum_of_sizes-loop-part l = l.sum ≡ min (sizes_of (tree_list (take l.part-index l.parts))) (2 ^ 64 - 1)
