use Rattle.std.proofs.Common.{◌∙◌, sym, subst, ◌+◌}
use Rattle.luo_engine.specs.inner.Listed.{AreSitesListed}
use Rattle.luo_engine.proofs.inner.SiteOrder.{site_listed, site_passed, level_listed}
use Rattle.luo_engine.proofs.order.list_sites.Goals.{then-ranks-i+then-levels-i+in_ok-push, else-ranks-i, else-ranks-i-via-then-ranks-i+else-levels-i, else-ranks-i-via-else-ranks-i}
use Rattle.luo_engine.proofs.order.list_sites.Goals as goal

pub loop-i-preserved : goal.loop-i-preserved
loop-i-preserved c = elim c.if-ranks-i.branch [
  | then-ranks-i+then-levels-i+in_ok-push w ↦ site_listed c.args.ranks.now c.args.levels.now c.args.r c.args.l c.loop-i.i c.loop-i.order c.if-ranks-i.order c.loop-i.invariant c.loop-i-test.true w.if-ranks-i.true w.if-levels-i.true (w.order-is ∙ w.in_ok-push.ensures.ok)
  | else-ranks-i w ↦ subst (AreSitesListed c.args.ranks.now c.args.levels.now c.args.r c.args.l (c.loop-i.i + 1)) (sym w.order-is) (site_passed c.args.ranks.now c.args.levels.now c.args.r c.args.l c.loop-i.i c.loop-i.order c.loop-i.invariant (λ h. elim w.else-ranks-i.branch [
    | else-ranks-i-via-then-ranks-i+else-levels-i v ↦ absurd (v.if-levels-i.false h.1)
    | else-ranks-i-via-else-ranks-i v ↦ absurd (v.if-ranks-i.false h.0)
  ]))
]

pub returns : goal.returns
returns c = level_listed c.args.ranks.now c.args.levels.now c.args.r c.args.l c.loop-i.i c.loop-i.order c.loop-i.invariant c.loop-i-test.false
