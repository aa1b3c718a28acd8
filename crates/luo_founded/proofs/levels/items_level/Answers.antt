use Rattle.luo_founded.proofs.LevelLoops.{top_start, top_next, top_end}
use Rattle.luo_founded.proofs.levels.items_level.Goals as goal

pub loop-item-init : goal.loop-item-init
loop-item-init c = top_start c.args.wholes.now c.args.items.now

pub loop-item-preserved : goal.loop-item-preserved
loop-item-preserved c = top_next c.args.wholes.now c.args.items.now c.loop-item.item-index c.item-item.result c.loop-item.most c.item_level.result c.larger-most.result c.loop-item-test.true c.item-item.is c.item_level.ensures c.larger-most.ensures c.loop-item.invariant

pub returns : goal.returns
returns c = top_end c.args.wholes.now c.args.items.now c.loop-item.item-index c.loop-item.most c.loop-item-test.false c.loop-item.invariant
