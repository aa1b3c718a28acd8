use Rattle.luo_model.specs.View.{plain_of}
use Rattle.luo_engine.specs.inner.SiteLists.{AreSiteRanks}
use Rattle.luo_engine.proofs.planned.ranks_of_sites.Given as goal

abbrev pub invariant-loop-i : goal.invariant-loop-i
invariant-loop-i l = AreSiteRanks (plain_of l.plan.program) l.copied l.i
