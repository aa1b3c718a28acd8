use Rattle.std.proofs.Common.{arith}
use Rattle.luo_engine.proofs.inner.SiteOrder.{rank_listed, all_listed}
use Rattle.luo_engine.proofs.order.site_order_of.Goals as goal

pub loop-r-preserved : goal.loop-r-preserved
loop-r-preserved c = rank_listed c.args.ranks.now c.args.levels.now c.loop-r.r c.loop-l.l c.top_of-highest.result c.loop-l.order c.loop-l.invariant c.loop-l-test.false (λ y h. c.top_of-highest.ensures y (omega (arith, h, c.requires.wide)))

pub returns : goal.returns
returns c = all_listed c.args.ranks.now c.args.levels.now c.loop-r.r c.top_of-most.result c.loop-r.order c.loop-r.invariant c.loop-r-test.false c.top_of-most.ensures
