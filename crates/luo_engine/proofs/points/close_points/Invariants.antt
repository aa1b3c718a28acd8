use Rattle.std.proofs.Common.{◌≡◌, drop}
use Rattle.luo_num.specs.Mark.{capped}
use Rattle.luo_engine.specs.inner.Grid.{entry_of, SameShape}
use Rattle.luo_engine.specs.inner.Points.{ArePointsClosed, point_of}
use Rattle.luo_engine.proofs.points.close_points.Given as goal

abbrev pub invariant-loop-r : goal.invariant-loop-r
invariant-loop-r l = record {
  rows : ArePointsClosed l.universe l.counts l.totals l.factors l.partials l.links l.points l.n l.r;
  whole : l.whole ≡ capped (point_of l.universe (entry_of l.counts) (entry_of l.totals) l.factors (drop l.r l.links) l.n);
  shape : SameShape l.fn.points l.points;
}
