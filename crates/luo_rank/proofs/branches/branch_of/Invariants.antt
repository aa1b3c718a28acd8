use Rattle.std.proofs.Common.{length, ◌-◌, ◌≡◌, ◌≤◌, ◌+◌}
use Rattle.luo_finite.specs.Range.{sum_below}
use Rattle.luo_rank.specs.inner.Lookup.{part_entry}
use Rattle.luo_rank.proofs.branches.branch_of.Given as goal

abbrev pub invariant-loop-group : goal.invariant-loop-group
invariant-loop-group l = (l.group ≤ length l.parts) × (sum_below (part_entry l.tables.counts l.parts l.n) l.group + l.rest ≡ l.rank)

abbrev pub decreases-loop-group : goal.decreases-loop-group
decreases-loop-group l = length l.parts - l.group
