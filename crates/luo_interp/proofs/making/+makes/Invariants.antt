use Rattle.std.proofs.Common.{◌+◌, ◌*◌, ◌^◌, length}
use Rattle.luo_model.specs.Tree.{to_list}
use Rattle.luo_model.specs.View.{plain_of, value_of}
use Rattle.luo_founded.proofs.Charged.{parts_in}
use Rattle.luo_struct.specs.View.{tree_of, tree_list}
use Rattle.luo_interp.specs.Makes.{Makes}
use Rattle.luo_model.specs.Lists.{value_list}
use Rattle.luo_interp.specs.inner.ValueSizes.{value_size, values_size}
use Rattle.luo_interp.proofs.ChargeSteps.{reach, beneath}
use Rattle.luo_interp.proofs.MakeSteps.{weight, MadeSoFar}
use Rattle.luo_interp.proofs.making.+makes.Given as goal

abbrev pub decreases-procedure_makes : goal.decreases-procedure_makes
decreases-procedure_makes l = weight (plain_of l.program.now) (parts_in (tree_of l.s.now) * 2 ^ 68 + 2 * l.left) 0

abbrev pub decreases-value_makes : goal.decreases-value_makes
decreases-value_makes l = weight (plain_of l.program.now) (reach (to_list (tree_list l.vars.now)) * 2 ^ 68 + 2 * l.left) (value_size (value_of l.value.now))

abbrev pub decreases-values_make : goal.decreases-values_make
decreases-values_make l = weight (plain_of l.program.now) (reach (to_list (tree_list l.vars.now)) * 2 ^ 68 + 2 * l.left) (values_size (value_list l.values.now))

abbrev pub decreases-arms_make : goal.decreases-arms_make
decreases-arms_make l = weight (plain_of l.program.now) (beneath (tree_of l.s.now) * 2 ^ 68 + (2 * (length l.program.now.procs + 1) + 2)) 0

abbrev pub decreases-arm_makes : goal.decreases-arm_makes
decreases-arm_makes l = weight (plain_of l.program.now) (reach (to_list (tree_list l.vars.now)) * 2 ^ 68 + (2 * (length l.program.now.procs + 1) + 1)) 0

abbrev pub invariant-values_make-loop-value : goal.invariant-values_make-loop-value
invariant-values_make-loop-value l = MadeSoFar (Makes (plain_of l.program)) l.values (to_list (tree_list l.vars)) l.value-index l.parts
