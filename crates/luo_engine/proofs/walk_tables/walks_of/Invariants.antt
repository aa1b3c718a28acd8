use Rattle.luo_model.specs.View.{plain_of}
use Rattle.luo_engine.specs.inner.WalkTables.{AreMadeBelow}
use Rattle.luo_engine.proofs.walk_tables.walks_of.Given as goal

abbrev pub invariant-loop-i : goal.invariant-loop-i
invariant-loop-i l = AreMadeBelow (plain_of l.plan.program) l.sites.tasks l.tables l.walks.items l.i
