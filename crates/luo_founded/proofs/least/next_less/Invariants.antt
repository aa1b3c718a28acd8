use Rattle.luo_founded.proofs.LeastTables.{LeastSoFar}
use Rattle.luo_founded.proofs.least.next_less.Given as goal

abbrev pub invariant-loop-x : goal.invariant-loop-x
invariant-loop-x l = LeastSoFar l.nodes l.table l.x l.next
