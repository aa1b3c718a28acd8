use Rattle.std.proofs.Common.{◌≡◌, suc, ◌-◌, slice_index}
use Rattle.luo_num.specs.Mark.{capped}
use Rattle.luo_finite.specs.Range.{sum_below}
use Rattle.luo_recipes.specs.Shares.{paired}
use Rattle.luo_engine.proofs.numbers.inner_at.Given as goal

abbrev pub invariant-loop-k : goal.invariant-loop-k
invariant-loop-k l = l.sum ≡ capped (sum_below (λ j. paired l.universe (slice_index l.left) (slice_index l.right) l.n (suc j)) (l.k - 1))
