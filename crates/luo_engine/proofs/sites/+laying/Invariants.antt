use Rattle.luo_model.specs.View.{plain_of}
use Rattle.luo_engine.proofs.LayLoops.{LaidSoFar, of_item, of_arm}
use Rattle.luo_engine.proofs.sites.+laying.Given as goal

abbrev pub invariant-lay_arms-loop-arm : goal.invariant-lay_arms-loop-arm
invariant-lay_arms-loop-arm l = LaidSoFar l.starts (of_arm (plain_of l.program) l.starts) l.arms l.arm-index l.initial.laid l.laid

abbrev pub invariant-lay_items-loop-item : goal.invariant-lay_items-loop-item
invariant-lay_items-loop-item l = LaidSoFar l.starts (of_item (plain_of l.program) l.starts) l.items l.item-index l.initial.laid l.laid
