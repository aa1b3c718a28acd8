use Rattle.std.proofs.Common.{sym, ◌∙◌, arith}
use Rattle.luo_engine.proofs.PointLemmas.{link_there, next_reaches, closed_point_row}
use Rattle.luo_engine.proofs.points.closed_at.Goals as goal

pub point_ends_at-ends-requires-clause-sites : goal.point_ends_at-ends-requires-clause-sites
point_ends_at-ends-requires-clause-sites c = (link_there c.args.universe c.args.counts.now c.args.totals.now c.args.factors.now c.args.partials.now c.args.links.now c.args.points.now c.args.n c.args.r c.in-Some.link c.index-links-r.result c.requires.row (sym c.index-links-r.is ∙ c.in-Some.is) c.requires.open_row.below).sites

pub point_ends_at-ends-requires-clause-next : goal.point_ends_at-ends-requires-clause-next
point_ends_at-ends-requires-clause-next c = next_reaches c.args.universe c.args.counts.now c.args.totals.now c.args.factors.now c.args.partials.now c.args.links.now c.args.points.now c.args.n c.args.r c.in-Some.link c.index-links-r.result c.requires.row (sym c.index-links-r.is ∙ c.in-Some.is) c.requires.open_row.below c.row.result.now c.row.ensures

pub returns-in-Some : goal.returns-in-Some
returns-in-Some c =
    let s = c.requires.open_row.open_rows c.args.r (omega arith) in
    closed_point_row c.args.universe c.args.counts.now c.args.totals.now c.args.factors.now c.args.partials.now c.args.links.now c.args.points.now c.args.n c.args.r c.in-Some.link c.index-links-r.result c.requires.row (sym c.index-links-r.is ∙ c.in-Some.is) c.requires.open_row.below c.row.result.now c.row.ensures
    c.entry.result c.args.whole c.point_ends_at-ends.result c.marked_add.result (c.entry.ensures ∙ s) c.requires.whole c.point_ends_at-ends.ensures c.marked_add.ensures
