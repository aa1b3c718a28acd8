use Rattle.std.proofs.Common.{◌≡◌, ◌+◌, ◌*◌, length}
use Rattle.luo_binom.specs.declared.pascal.TheConstants.{WIDE}
use Rattle.luo_binom.specs.inner.Cells.{AreCells}
use Rattle.luo_binom.proofs.pascal.push_row.Given as goal

abbrev pub invariant-loop-k : goal.invariant-loop-k
invariant-loop-k l = AreCells l.cells.items × (length l.cells.items ≡ WIDE * l.n + l.k)
