use Rattle.std.proofs.Common.{◌≡◌}
use Rattle.luo_num.specs.Mark.{capped}
use Rattle.luo_finite.specs.Range.{sum_below}
use Rattle.luo_rank.specs.inner.Lookup.{term_of}
use Rattle.luo_rank.proofs.shares.all_shared.Given as goal

abbrev pub invariant-loop-k : goal.invariant-loop-k
invariant-loop-k l = l.sum ≡ capped (sum_below (term_of l.tables l.x l.f l.n) l.k)
