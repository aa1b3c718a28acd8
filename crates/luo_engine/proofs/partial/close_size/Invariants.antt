use Rattle.std.proofs.Common.{◌≡◌, drop}
use Rattle.luo_num.specs.Mark.{capped}
use Rattle.luo_engine.specs.inner.Grid.{entry_of, SameShape}
use Rattle.luo_recipes.specs.Shares.{tail_of}
use Rattle.luo_engine.specs.inner.Partial.{AreClosedFrom}
use Rattle.luo_engine.proofs.partial.close_size.Given as goal

abbrev pub invariant-loop-r : goal.invariant-loop-r
invariant-loop-r l = record { rows : AreClosedFrom l.universe l.counts l.factors l.partials l.n l.r; whole : l.whole ≡ capped (tail_of l.universe (entry_of l.counts) (drop l.r l.factors) l.n); shape : SameShape l.fn.partials l.partials }
