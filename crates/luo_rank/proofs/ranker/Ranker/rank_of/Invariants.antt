use Rattle.std.proofs.Common.{◌-◌, ◌≤◌, ◌<◌}
use Rattle.luo_model.specs.View.{plain_of}
use Rattle.luo_struct.specs.View.{tree_of}
use Rattle.luo_rank.specs.inner.Halving.{IsWithin}
use Rattle.luo_rank.proofs.ranker.Ranker.rank_of.Given as goal

abbrev pub invariant-loop-span : goal.invariant-loop-span
invariant-loop-span l = (l.span.low < l.span.high) × (l.span.high ≤ l.self.count) × IsWithin (plain_of l.self.program) l.self.node l.self.size (tree_of l.s) l.span.low l.span.high

abbrev pub decreases-loop-span : goal.decreases-loop-span
decreases-loop-span l = l.span.high - l.span.low
