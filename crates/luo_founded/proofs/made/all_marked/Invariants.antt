use Rattle.luo_founded.specs.inner.Marks.{Marked}
use Rattle.luo_model.specs.declared.program.Part.{Part}
use Rattle.luo_finite.proofs.Loops.{AllBefore}
use Rattle.luo_founded.proofs.made.all_marked.Given as goal

abbrev pub invariant-loop-part : goal.invariant-loop-part
invariant-loop-part l = AllBefore (λ k (part : Part). Marked l.table part.node) l.parts l.part-index
