use Rattle.std.proofs.Common.{◌-◌, ◌≤◌}
use Rattle.luo_rank.specs.inner.Lookup.{below_of}
use Rattle.luo_rank.proofs.bags.size_of_first.Given as goal

abbrev pub invariant-loop-d : goal.invariant-loop-d
invariant-loop-d l = (1 ≤ l.d) × (l.d ≤ l.n) × (below_of l.tables l.x l.f l.n l.d 0 ≤ l.rank)

abbrev pub decreases-loop-d : goal.decreases-loop-d
decreases-loop-d l = l.n - l.d
