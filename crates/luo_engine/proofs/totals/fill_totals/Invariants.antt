use Rattle.std.proofs.Common.{length}
use Rattle.luo_model.specs.View.{plain_of}
use Rattle.luo_engine.specs.inner.Grid.{SameShape}
use Rattle.luo_engine.specs.inner.Points.{ArePointsOpen}
use Rattle.luo_engine.specs.inner.Laid.{AreTotalled}
use Rattle.luo_engine.specs.inner.Totals.{AreWalked}
use Rattle.luo_engine.proofs.totals.fill_totals.Given as goal

abbrev pub invariant-loop-k : goal.invariant-loop-k
invariant-loop-k l = record {
  totalled : AreTotalled (plain_of l.plan.program) l.sites.order l.totals l.n l.k;
  open_rows : ArePointsOpen l.plan.program.universe l.counts l.totals l.plan.factors l.partials l.sites.links l.points l.n (length l.sites.links);
  walks : AreWalked (plain_of l.plan.program) l.plan.reach l.sites l.walks.items l.n l.k;
  shape : SameShape l.fn.totals l.totals;
}
