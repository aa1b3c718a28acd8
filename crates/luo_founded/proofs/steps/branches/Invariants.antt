use Rattle.std.proofs.Common.{◌≡◌}
use Rattle.luo_model.specs.declared.program.Part.{Part}
use Rattle.luo_finite.proofs.Gathered.{Gathers}
use Rattle.luo_founded.proofs.steps.branches.Given as goal

abbrev pub invariant-loop-part : goal.invariant-loop-part
invariant-loop-part l = Gathers (λ k (part : Part) y. part.node ≡ y) l.parts l.part-index l.nodes
