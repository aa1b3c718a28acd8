use Rattle.std.proofs.Common.{◌≡◌, ◌+◌, suc, refl, ◌∙◌, ap, arith}
use Rattle.luo_num.specs.Mark.{capped}
use Rattle.luo_finite.specs.Range.{sum_below}
use Rattle.luo_rank.specs.inner.Lookup.{term_of}
use Rattle.luo_rank.proofs.ListLemmas.{sum_more}
use Rattle.luo_rank.proofs.shares.all_shared.Goals as goal

pub loop-k-preserved : goal.loop-k-preserved
loop-k-preserved c = c.marked_add-sum.ensures ∙ sum_more (term_of c.args.tables.now c.args.x c.args.f c.args.n) c.loop-k.k (c.loop-k.k + 1) c.loop-k.sum c.term.result c.loop-k.invariant c.term.ensures refl

pub returns : goal.returns
returns c = c.loop-k.invariant ∙ ap (λ m. capped (sum_below (term_of c.args.tables.now c.args.x c.args.f c.args.n) m)) (let q : c.loop-k.k ≡ suc c.args.n = omega (arith, c.loop-k-test.false, c.loop-k.auto.k-end) in q)
