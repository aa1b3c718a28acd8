use Rattle.luo_founded.proofs.LevelLoops.{TopSoFar}
use Rattle.luo_founded.proofs.levels.items_level.Given as goal

abbrev pub invariant-loop-item : goal.invariant-loop-item
invariant-loop-item l = TopSoFar l.wholes l.items l.item-index l.most
