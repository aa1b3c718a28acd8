use Rattle.std.proofs.Common.{◌≡◌, ◌*◌, length}
use Rattle.luo_binom.specs.declared.pascal.TheConstants.{WIDE}
use Rattle.luo_binom.specs.inner.Cells.{AreCells}
use Rattle.luo_binom.proofs.pascal.Pascal.new.Given as goal

abbrev pub invariant-loop-row : goal.invariant-loop-row
invariant-loop-row l = AreCells l.cells.items × (length l.cells.items ≡ WIDE * l.row)
