use Rattle.std.proofs.Common.{arith}
use Rattle.luo_founded.proofs.LongestLemmas.{most_next, most_end}
use Rattle.luo_founded.proofs.longest.most.Goals as goal

pub loop-y-preserved : goal.loop-y-preserved
loop-y-preserved c = most_next c.args.targets.now c.args.ranks.now c.loop-y.y-index _ c.loop-y.most c.past.result c.larger-most.result c.loop-y-test.true c.past.ensures c.larger-most.ensures c.loop-y.invariant

pub returns : goal.returns
returns c = most_end c.args.targets.now c.args.ranks.now c.loop-y.y-index c.loop-y.most (omega (arith, c.loop-y-test.false)) c.loop-y.invariant
