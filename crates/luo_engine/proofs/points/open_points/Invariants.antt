use Rattle.luo_engine.specs.inner.Grid.{SameShape}
use Rattle.luo_engine.specs.inner.Points.{ArePointsOpen}
use Rattle.luo_engine.proofs.points.open_points.Given as goal

abbrev pub invariant-loop-r : goal.invariant-loop-r
invariant-loop-r l = record { rows : ArePointsOpen l.universe l.counts l.totals l.factors l.partials l.links l.points l.n l.r; shape : SameShape l.fn.points l.points }
