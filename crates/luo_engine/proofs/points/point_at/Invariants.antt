use Rattle.std.proofs.Common.{◌≡◌, ◌+◌, drop}
use Rattle.luo_num.specs.Mark.{capped}
use Rattle.luo_engine.specs.inner.Grid.{entry_of}
use Rattle.luo_engine.specs.inner.Points.{point_of}
use Rattle.luo_engine.proofs.points.point_at.Given as goal

abbrev pub invariant-loop-i : goal.invariant-loop-i
invariant-loop-i l = l.whole ≡ capped (point_of l.universe (entry_of l.counts) (entry_of l.totals) l.factors (drop (l.start + l.i) l.links) l.n)
