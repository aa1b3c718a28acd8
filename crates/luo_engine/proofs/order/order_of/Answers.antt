use Rattle.std.proofs.Common.{◌∙◌, sym, subst, ◌+◌, List, ℕ}
use Rattle.luo_engine.specs.inner.Listed.{IsListed}
use Rattle.luo_engine.proofs.inner.OrderLemmas.{listed_more, listed_other, listed_next, listed_all}
use Rattle.luo_engine.proofs.order.order_of.Goals.{then-ranks-x+in_ok-push, else-ranks-x}
use Rattle.luo_engine.proofs.order.order_of.Goals as goal

pub loop-x-preserved : goal.loop-x-preserved
loop-x-preserved c = elim c.if-ranks-x.branch [
  | then-ranks-x+in_ok-push w ↦ listed_more c.args.ranks.now c.loop-x.order c.if-ranks-x.order c.loop-r.r c.loop-x.x c.loop-x.invariant c.loop-x-test.true w.if-ranks-x.true (w.order-is ∙ w.in_ok-push.ensures.ok)
  | else-ranks-x w ↦ subst (λ (o : List ℕ). IsListed c.args.ranks.now o c.loop-r.r (c.loop-x.x + 1)) (sym w.order-is) (listed_other c.args.ranks.now c.loop-x.order c.loop-r.r c.loop-x.x c.loop-x.invariant w.if-ranks-x.false)
]

pub loop-r-preserved : goal.loop-r-preserved
loop-r-preserved c = listed_next c.args.ranks.now c.loop-x.order c.loop-r.r c.loop-x.x c.loop-x.invariant c.loop-x-test.false

pub returns : goal.returns
returns c = listed_all c.args.ranks.now c.loop-r.order c.loop-r.r c.top_of-top.result c.loop-r.invariant c.loop-r-test.false c.top_of-top.ensures
