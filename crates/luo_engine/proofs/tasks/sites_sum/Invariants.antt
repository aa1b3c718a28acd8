use Rattle.std.proofs.Common.{◌≡◌, sum_by, take}
use Rattle.luo_num.specs.Mark.{capped}
use Rattle.luo_engine.specs.inner.Grid.{entry_of}
use Rattle.luo_engine.proofs.tasks.sites_sum.Given as goal

abbrev pub invariant-loop-s : goal.invariant-loop-s
invariant-loop-s l = l.sum ≡ capped (sum_by (λ s. entry_of l.totals s l.n) (take l.s-index l.sites))
