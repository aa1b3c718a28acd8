use Rattle.luo_model.specs.declared.program.Node.{Node}
use Rattle.luo_founded.specs.inner.Marks.{Marked}
use Rattle.luo_model.specs.Founded.{KeepsSize}
use Rattle.luo_finite.proofs.Gathered.{EachGives}
use Rattle.luo_founded.proofs.steps.steps.Given as goal

abbrev pub invariant-loop-node : goal.invariant-loop-node
invariant-loop-node l = EachGives (λ (node : Node) y. KeepsSize (Marked l.zero) node.shape y) l.program.nodes l.node-index l.edges
