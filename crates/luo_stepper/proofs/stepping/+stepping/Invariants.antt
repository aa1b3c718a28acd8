use Rattle.std.proofs.Common.{◌+◌, ◌*◌}
use Rattle.luo_struct.specs.View.{tree_of, tree_list}
use Rattle.luo_stepper.specs.inner.Stepping.{weight_of, weights_of, from_place}
use Rattle.luo_stepper.proofs.stepping.+stepping.Given as goal

abbrev pub decreases-step_on : goal.decreases-step_on
decreases-step_on l = 2 * weight_of (tree_of l.s)

abbrev pub decreases-parts_on : goal.decreases-parts_on
decreases-parts_on l = 2 * weights_of (tree_list (from_place l.f l.items.now)) + 1
