use Rattle.luo_model.specs.View.{plain_of}
use Rattle.luo_engine.specs.inner.Layout.{AreRanksBelow}
use Rattle.luo_engine.proofs.layout.ranks_of.Given as goal

abbrev pub invariant-loop-x : goal.invariant-loop-x
invariant-loop-x l = AreRanksBelow (plain_of l.ranks) l.copied l.x
