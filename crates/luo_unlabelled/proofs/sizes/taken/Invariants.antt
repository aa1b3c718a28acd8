use Rattle.std.proofs.Common.{◌≡◌, ◌*◌, slice_index}
use Rattle.luo_num.specs.Mark.{capped}
use Rattle.luo_finite.specs.Range.{sum_below}
use Rattle.luo_counting.specs.Numbers.{back}
use Rattle.luo_unlabelled.proofs.sizes.taken.Given as goal

abbrev pub invariant-loop-j : goal.invariant-loop-j
invariant-loop-j l = l.sum ≡ capped (sum_below (λ j. slice_index l.ways j * back (j * l.d) (slice_index l.cells) l.m) l.j)
