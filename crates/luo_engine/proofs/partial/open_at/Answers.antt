use Rattle.luo_engine.proofs.inner.RowLemmas.{open_row}
use Rattle.luo_engine.proofs.partial.open_at.Goals as goal

pub returns-in-Some : goal.returns-in-Some
returns-in-Some c = open_row c.args.universe c.args.counts.now c.args.partials.now c.args.factors.now c.args.r c.args.n c.in-Some.y c.inner_at.result _ c.row.result.now c.row-in-Some.result.now c.requires.below c.requires.row c.in-Some.is c.row.ensures c.row-in-Some.ensures c.inner_at.ensures
