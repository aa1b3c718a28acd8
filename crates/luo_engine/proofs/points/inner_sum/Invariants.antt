use Rattle.std.proofs.Common.{◌≡◌, sum_by, take, slice_index}
use Rattle.luo_num.specs.Mark.{capped}
use Rattle.luo_engine.specs.inner.Grid.{entry_of}
use Rattle.luo_recipes.specs.Shares.{inner}
use Rattle.luo_engine.proofs.points.inner_sum.Given as goal

abbrev pub invariant-loop-s : goal.invariant-loop-s
invariant-loop-s l = l.sum ≡ capped (sum_by (λ s. inner l.universe (entry_of l.totals s) (slice_index l.rest) l.n) (take l.s-index l.sites))
