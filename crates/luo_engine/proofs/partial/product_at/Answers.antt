use Rattle.std.proofs.Common.{sym, ◌∙◌, ap}
use Rattle.luo_num.specs.Mark.{capped}
use Rattle.luo_engine.specs.inner.Grid.{entry_of}
use Rattle.luo_engine.proofs.inner.MarkLemmas.{capped-unit}
use Rattle.luo_engine.proofs.inner.RowLemmas.{end_row}
use Rattle.luo_engine.proofs.partial.product_at.Goals as goal

pub loop-i-init : goal.loop-i-init
loop-i-init c = c.unit_at-whole.ensures ∙ capped-unit c.args.n ∙ ap capped (sym (end_row c.args.universe (entry_of c.args.counts.now) c.args.factors.now _ c.args.n c.requires.end))
