use Rattle.std.proofs.Common.{◌∙◌}
use Rattle.luo_engine.proofs.TotalRuns.{totalling_starts}
use Rattle.luo_engine.proofs.total_tables.total_tables.Goals as goal

pub returns : goal.returns
returns c counts all =
    totalling_starts c.args.plan.now c.in_ok-sites.sites counts c.in_ok-totals.totals c.in_ok-walks.walks.items c.in_ok-points.points c.args.plan.now.reach c.args.sizes c.rows_for-width.result c.rows_for-rows.result
    c.in_ok-sites.ensures.sites_are c.requires.sizes (c.rows_for-width.ensures all ∙ c.len-tasks.ensures ∙ c.in_ok-sites.ensures.sites_are.tasks_wide) (c.rows_for-rows.ensures all ∙ c.len-links.ensures)
    c.in_ok-totals.ensures.table c.in_ok-totals.ensures.zeros c.in_ok-points.ensures.table c.in_ok-walks.ensures
