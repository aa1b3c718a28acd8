use Rattle.std.proofs.Common.{◌≡◌, ◌+◌, ◌*◌, ◌-◌, suc, slice_index}
use Rattle.luo_num.specs.Mark.{capped}
use Rattle.luo_finite.specs.Range.{sum_below}
use Rattle.luo_unlabelled.proofs.numbers.convolved.Given as goal

abbrev pub invariant-loop-j : goal.invariant-loop-j
invariant-loop-j l = l.sum ≡ capped (sum_below (λ j. slice_index l.numbers (suc j) * slice_index l.cells (l.row + (l.n - suc j))) l.j)
