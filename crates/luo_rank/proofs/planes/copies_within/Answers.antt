use Rattle.std.proofs.Common.{◌≡◌, ◌+◌, ◌-◌, suc, ◌∙◌, ap, arith}
use Rattle.luo_num.specs.Mark.{capped}
use Rattle.luo_finite.specs.Range.{sum_below}
use Rattle.luo_rank.specs.inner.Lookup.{with_size}
use Rattle.luo_rank.proofs.ListLemmas.{sum_more}
use Rattle.luo_rank.proofs.planes.copies_within.Goals as goal

pub loop-k-preserved : goal.loop-k-preserved
loop-k-preserved c =
    let k = c.loop-k.k in
    let low = c.args.low in
    c.marked_add-sum.ensures ∙ sum_more (λ e. with_size c.args.ways.now c.args.rows.now c.args.d (low + e) c.args.n) (k - low) (k + 1 - low) c.loop-k.sum c.copies.result c.loop-k.invariant
    (c.copies.ensures ∙ ap (λ m. capped (with_size c.args.ways.now c.args.rows.now c.args.d m c.args.n)) (let q : k ≡ low + (k - low) = omega (arith, c.loop-k.auto.k) in q)) (omega (arith, c.loop-k.auto.k))

pub returns : goal.returns
returns c = c.loop-k.invariant ∙ ap (λ m. capped (sum_below (λ e. with_size c.args.ways.now c.args.rows.now c.args.d (c.args.low + e) c.args.n) m)) (let q : c.loop-k.k - c.args.low ≡ suc c.args.most - c.args.low = omega (arith, c.loop-k-test.false, c.loop-k.auto.k-end, c.if-most-low.false) in q)
