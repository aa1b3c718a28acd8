use Rattle.std.proofs.Common.{sym, ap}
use Rattle.luo_num.specs.Mark.{capped}
use Rattle.luo_engine.specs.inner.Grid.{entry_of}
use Rattle.luo_engine.proofs.PointLemmas.{end_point}
use Rattle.luo_engine.proofs.points.point_at.Goals as goal

pub loop-i-init : goal.loop-i-init
loop-i-init c = ap capped (sym (end_point c.args.universe (entry_of c.args.counts.now) (entry_of c.args.totals.now) c.args.factors.now c.args.links.now _ c.args.n c.requires.end))
