use Rattle.std.proofs.Common.{◌≡◌, ◌+◌, ◌*◌, ◌-◌, ◌≤◌, [], slice_index, slice_index_or}
use Rattle.luo_num.specs.Mark.{capped}
use Rattle.luo_finite.specs.Range.{sum_below}
use Rattle.luo_counting.specs.Numbers.{back}
use Rattle.luo_rank.proofs.planes.copies.Given as goal

abbrev pub invariant-loop-j : goal.invariant-loop-j
invariant-loop-j l = (l.sum ≡ capped (sum_below (λ j. slice_index l.ways j * back (j * l.d) (slice_index (slice_index_or l.rows (l.k - j) [])) l.n) l.j)) × (l.j ≤ l.k + 1)

abbrev pub decreases-loop-j : goal.decreases-loop-j
decreases-loop-j l = l.k + 1 - l.j
