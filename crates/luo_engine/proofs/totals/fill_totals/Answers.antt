use Rattle.luo_engine.proofs.inner.FillLemmas.{shape_kept}
use Rattle.luo_engine.proofs.TotalPlan.{totalled_more, first_total, points_kept}
use Rattle.luo_engine.proofs.totals.fill_totals.Goals as goal

pub returns-then-value-gt-MAX-clause-past : goal.returns-then-value-gt-MAX-clause-past
returns-then-value-gt-MAX-clause-past c =
    first_total c.args.plan.now c.args.sites.now c.requires.fixed c.loop-k.k c.site_at-i.result c.site_at-i.ensures c.loop-k.totals c.args.n c.total_at-value.result c.loop-k.invariant.totalled c.total_at-value.ensures.number c.if-value-gt-MAX.true

pub loop-k-preserved : goal.loop-k-preserved
loop-k-preserved c = record {
  totalled = totalled_more c.args.plan.now c.args.sites.now c.requires.fixed c.loop-k.k c.site_at-i.result c.site_at-i.ensures c.loop-k.totals c.set.new.self c.args.n c.total_at-value.result c.loop-k.invariant.totalled c.total_at-value.ensures.number c.set.ensures c.if-value-gt-MAX.false;
  open_rows = points_kept c.loop-k.totals c.set.new.self c.site_at-i.result c.args.n c.total_at-value.result c.set.ensures _ c.args.counts.now c.args.plan.now.factors c.args.partials.now c.args.sites.now.links c.args.points.now _ c.loop-k.invariant.open_rows;
  walks = c.total_at-value.ensures.walks c.if-value-gt-MAX.false;
  shape = shape_kept _ c.loop-k.totals c.set.new.self c.site_at-i.result c.args.n c.total_at-value.result c.set.ensures c.loop-k.invariant.shape;
}
