use Rattle.luo_model.specs.View.{plain_of}
use Rattle.luo_engine.specs.inner.SiteLists.{AreSiteLevels}
use Rattle.luo_engine.proofs.planned.levels_of_sites.Given as goal

abbrev pub invariant-loop-i : goal.invariant-loop-i
invariant-loop-i l = AreSiteLevels (plain_of l.plan.program) l.copied l.i
