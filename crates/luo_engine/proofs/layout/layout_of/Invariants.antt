use Rattle.luo_model.specs.View.{plain_of}
use Rattle.luo_engine.specs.inner.Layout.{AreLaidBelow}
use Rattle.luo_engine.proofs.layout.layout_of.Given as goal

abbrev pub invariant-loop-node : goal.invariant-loop-node
invariant-loop-node l = AreLaidBelow (plain_of l.program) l.layout l.node-index
