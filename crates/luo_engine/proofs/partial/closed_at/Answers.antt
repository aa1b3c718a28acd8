use Rattle.luo_engine.proofs.inner.RowLemmas.{closed_row}
use Rattle.luo_engine.proofs.partial.closed_at.Goals as goal

pub returns-in-Some : goal.returns-in-Some
returns-in-Some c = closed_row c.args.universe c.args.counts.now c.args.partials.now c.args.factors.now c.args.r c.args.n c.in-Some.y _ c.args.whole c.closing_at.result _ c.row.result.now c.row-in-Some.result.now c.requires.open_row c.requires.row c.in-Some.is c.row.ensures c.row-in-Some.ensures c.entry.ensures c.requires.whole c.closing_at.ensures
