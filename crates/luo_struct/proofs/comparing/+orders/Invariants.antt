use Rattle.luo_struct.proofs.CompareLemmas.{SameLeft}
use Rattle.luo_struct.proofs.comparing.+orders.Given as goal

abbrev pub invariant-by_parts-loop-place : goal.invariant-by_parts-loop-place
invariant-by_parts-loop-place l = SameLeft l.parts l.others l.place
