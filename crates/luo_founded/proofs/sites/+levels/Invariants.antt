use Rattle.luo_founded.proofs.LevelLoops.{PutSoFar, of_item, of_arm}
use Rattle.luo_founded.proofs.sites.+levels.Given as goal

abbrev pub invariant-push_arms-loop-arm : goal.invariant-push_arms-loop-arm
invariant-push_arms-loop-arm l = PutSoFar (of_arm l.wholes) l.arms l.arm-index l.initial.levels l.levels

abbrev pub invariant-push_items-loop-item : goal.invariant-push_items-loop-item
invariant-push_items-loop-item l = PutSoFar (of_item l.wholes) l.items l.item-index l.initial.levels l.levels
