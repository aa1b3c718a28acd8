use Rattle.std.proofs.Common.{length}
use Rattle.luo_model.specs.View.{plain_of}
use Rattle.luo_engine.specs.inner.Grid.{SameShape, SameOthers}
use Rattle.luo_engine.specs.inner.Partial.{AreOpenBefore}
use Rattle.luo_engine.specs.inner.Collections.{AreCollections}
use Rattle.luo_engine.specs.inner.Filled.{AreCounted}
use Rattle.luo_engine.proofs.counts.fill_counts.Given as goal

abbrev pub invariant-loop-k : goal.invariant-loop-k
invariant-loop-k l = record { counted : AreCounted (plain_of l.plan.program) l.plan.order l.counts l.n l.k; open_rows : AreOpenBefore l.plan.program.universe l.counts l.plan.factors l.partials l.n (length l.plan.factors); shape : SameShape l.fn.counts l.counts; others : SameOthers l.n l.fn.counts l.counts; collections : AreCollections (plain_of l.plan.program) l.plan.reach l.plan.order l.collections.items l.n l.k }
