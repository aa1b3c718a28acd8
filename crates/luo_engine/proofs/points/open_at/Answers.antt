use Rattle.std.proofs.Common.{sym, ◌∙◌}
use Rattle.luo_engine.proofs.PointLemmas.{link_there, next_reaches, open_point_row}
use Rattle.luo_engine.proofs.points.open_at.Goals as goal

pub open_point_at-requires-clause-sites : goal.open_point_at-requires-clause-sites
open_point_at-requires-clause-sites c = (link_there c.args.universe c.args.counts.now c.args.totals.now c.args.factors.now c.args.partials.now c.args.links.now c.args.points.now c.args.n c.args.r c.in-Some.link c.index-links-r.result c.requires.row (sym c.index-links-r.is ∙ c.in-Some.is) c.requires.below).sites

pub open_point_at-requires-clause-next : goal.open_point_at-requires-clause-next
open_point_at-requires-clause-next c = next_reaches c.args.universe c.args.counts.now c.args.totals.now c.args.factors.now c.args.partials.now c.args.links.now c.args.points.now c.args.n c.args.r c.in-Some.link c.index-links-r.result c.requires.row (sym c.index-links-r.is ∙ c.in-Some.is) c.requires.below c.row.result.now c.row.ensures

pub returns-in-Some : goal.returns-in-Some
returns-in-Some c = open_point_row c.args.universe c.args.counts.now c.args.totals.now c.args.factors.now c.args.partials.now c.args.links.now c.args.points.now c.args.n c.args.r c.in-Some.link c.index-links-r.result c.requires.row (sym c.index-links-r.is ∙ c.in-Some.is) c.requires.below c.row.result.now c.row.ensures c.open_point_at.result c.open_point_at.ensures
