use Rattle.std.proofs.Common.{◌-◌, ◌≤◌, ◌<◌}
use Rattle.luo_rank.specs.inner.Lookup.{below_of}
use Rattle.luo_rank.proofs.bags.place_of_first.Given as goal

abbrev pub invariant-loop-high : goal.invariant-loop-high
invariant-loop-high l = (l.low < l.high) × (l.high ≤ l.all) × (below_of l.tables l.x l.f l.n l.d l.low ≤ l.rank) × (l.rank < below_of l.tables l.x l.f l.n l.d l.high)

abbrev pub decreases-loop-high : goal.decreases-loop-high
decreases-loop-high l = l.high - l.low
