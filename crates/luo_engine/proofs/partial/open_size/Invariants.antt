use Rattle.luo_engine.specs.inner.Grid.{SameShape}
use Rattle.luo_engine.specs.inner.Partial.{AreOpenBefore}
use Rattle.luo_engine.proofs.partial.open_size.Given as goal

abbrev pub invariant-loop-r : goal.invariant-loop-r
invariant-loop-r l = record { rows : AreOpenBefore l.universe l.counts l.factors l.partials l.n l.r; shape : SameShape l.fn.partials l.partials }
