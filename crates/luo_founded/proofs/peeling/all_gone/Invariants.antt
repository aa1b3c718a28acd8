use Rattle.luo_finite.proofs.Loops.{AllBefore}
use Rattle.luo_founded.specs.inner.Marks.{Marked}
use Rattle.luo_founded.proofs.peeling.all_gone.Given as goal

abbrev pub invariant-loop-y : goal.invariant-loop-y
invariant-loop-y l = AllBefore (λ k y. Marked l.gone y) l.targets l.y-index
