use Rattle.luo_binom.proofs.CellLemmas.{cell_none, cell_sum}
use Rattle.std.proofs.Common.{◌∙◌, refl, length, ◌-◌}
use Rattle.luo_binom.specs.declared.pascal.TheConstants.{WIDE}
use Rattle.luo_binom.proofs.pascal.next_cell.Goals as goal

pub returns-then-n-eq0 : goal.returns-then-n-eq0
returns-then-n-eq0 c = cell_none c.args.n c.args.k c.if-k-eq0.false c.if-n-eq0.true

pub returns-else-n-eq0 : goal.returns-else-n-eq0
returns-else-n-eq0 c =
    c.marked_add.ensures ∙ cell_sum c.args.cells.now c.args.n c.args.k (length c.args.cells.now - WIDE) c.requires.cells c.requires.at c.requires.inside c.if-k-eq0.false c.if-n-eq0.false refl
