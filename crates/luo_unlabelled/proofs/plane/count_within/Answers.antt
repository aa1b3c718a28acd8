use Rattle.std.proofs.Common.{arith, ◌+◌, ◌∙◌, refl}
use Rattle.luo_unlabelled.specs.inner.Planes.{top_count}
use Rattle.luo_unlabelled.proofs.PlaneLemmas.{slim_less, sum_more}
use Rattle.luo_unlabelled.proofs.plane.count_within.Goals as goal

pub top_count-requires-clause-slim : goal.top_count-requires-clause-slim
top_count-requires-clause-slim c = slim_less c.args.cells.now c.args.wide (c.args.last + 1) (c.loop-k.k + 1) (omega (arith, c.loop-k-test.true)) c.requires.slim

pub loop-k-preserved : goal.loop-k-preserved
loop-k-preserved c =
    c.marked_add-sum.ensures
    ∙ sum_more c.args.low c.loop-k.k (c.loop-k.k + 1) c.loop-k.sum c.top_count.result (top_count c.args.ways.now c.args.cells.now c.args.wide c.args.n c.args.here) (omega (arith, c.loop-k.auto.k)) refl c.loop-k.invariant c.top_count.ensures
