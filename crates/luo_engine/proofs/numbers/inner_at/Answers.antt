use Rattle.std.proofs.Common.{suc, ◌∙◌, ap, arith, slice_index}
use Rattle.luo_num.specs.Mark.{capped}
use Rattle.luo_finite.specs.Range.{sum_below}
use Rattle.luo_recipes.specs.Shares.{paired, inner}
use Rattle.luo_engine.proofs.inner.MarkLemmas.{inner-more}
use Rattle.luo_engine.proofs.numbers.inner_at.Goals as goal

pub returns : goal.returns
unfolding inner
returns c = c.loop-k.invariant ∙ ap (λ k. capped (sum_below (λ j. paired c.args.universe (slice_index c.args.left.now) (slice_index c.args.right.now) c.args.n (suc j)) k)) (omega arith)

pub loop-k-preserved : goal.loop-k-preserved
loop-k-preserved c =
    inner-more c.args.universe (slice_index c.args.left.now) (slice_index c.args.right.now) c.args.n c.loop-k.k c.ways_at.result c.marked_mul-both.result c.marked_mul.result c.loop-k.sum c.marked_add-sum.result
    (omega (arith, c.loop-k.auto.k)) c.ways_at.ensures c.marked_mul-both.ensures c.marked_mul.ensures c.marked_add-sum.ensures c.loop-k.invariant
