use Rattle.std.proofs.Common.{◌≡◌}
use Rattle.luo_model.specs.declared.program.Part.{Part}
use Rattle.luo_founded.specs.inner.Marks.{Marked}
use Rattle.luo_finite.proofs.Loops.{AllBefore}
use Rattle.luo_founded.proofs.steps.others_marked.Given as goal

abbrev pub invariant-loop-k : goal.invariant-loop-k
invariant-loop-k l = AllBefore (λ k (other : Part). (k ≡ l.at → ⊥) → Marked l.table other.node) l.parts l.k
