use Rattle.luo_struct.proofs.NeighbourLemmas.{SameFrom}
use Rattle.luo_struct.proofs.members.neighbours_stand.Given as goal

abbrev pub invariant-loop-place : goal.invariant-loop-place
invariant-loop-place l = SameFrom l.kind l.parts l.place
