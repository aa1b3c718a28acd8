use Rattle.std.proofs.Common.{◌≡◌, ◌+◌, drop}
use Rattle.luo_num.specs.Mark.{capped}
use Rattle.luo_engine.specs.inner.Grid.{entry_of}
use Rattle.luo_recipes.specs.Shares.{tail_of}
use Rattle.luo_engine.proofs.partial.product_at.Given as goal

abbrev pub invariant-loop-i : goal.invariant-loop-i
invariant-loop-i l = l.whole ≡ capped (tail_of l.universe (entry_of l.counts) (drop (l.start + l.i) l.factors) l.n)
