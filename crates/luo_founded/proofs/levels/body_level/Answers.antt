use Rattle.std.proofs.Common.{arith}
use Rattle.luo_model.specs.View.{item_list}
use Rattle.luo_founded.proofs.LevelLemmas.{items_up_to}
use Rattle.luo_founded.proofs.LevelLoops.{not_true, level_of_some}
use Rattle.luo_founded.proofs.levels.body_level.Goals as goal

pub overflow_add-result : goal.overflow_add-result
overflow_add-result c = omega (arith, c.items_level.ensures, items_up_to c.args.wholes.now 1000000 c.requires (item_list c.as_slice.result.now))

pub returns-else-is_empty : goal.returns-else-is_empty
returns-else-is_empty c = level_of_some c.args.wholes.now c.args.body.now c.as_slice.result.now c.items_level.result c.as_slice.ensures (λ e. not_true (c.if-is_empty.ensures.1 e)) c.items_level.ensures
