use Rattle.luo_founded.proofs.PeelingLemmas.{peeled_next, fewer_next}
use Rattle.luo_founded.proofs.peeling.peeled.Goals as goal

pub loop-x-smaller : goal.loop-x-smaller
loop-x-smaller c = fewer_next c.args.edges.now c.loop-x.gone c.as_slice.result.now _ c.in-Some.x c.as_slice.ensures c.in-Some.ensures c.set.ensures

pub loop-x-preserved : goal.loop-x-preserved
loop-x-preserved c = peeled_next c.args.edges.now c.loop-x.gone c.as_slice.result.now _ c.in-Some.x c.as_slice.ensures c.in-Some.ensures c.set.ensures c.loop-x.invariant
