use Rattle.std.proofs.Common.{◌-◌, ◌≡◌, ◌≤◌, ◌+◌}
use Rattle.luo_finite.specs.Range.{sum_below}
use Rattle.luo_rank.specs.inner.Lookup.{term_of}
use Rattle.luo_rank.proofs.shares.size_at.Given as goal

abbrev pub invariant-loop-group : goal.invariant-loop-group
invariant-loop-group l = (l.group ≤ l.n + 1) × (sum_below (term_of l.tables l.x l.f l.n) l.group + l.rest ≡ l.rank)

abbrev pub decreases-loop-group : goal.decreases-loop-group
decreases-loop-group l = l.n + 1 - l.group
