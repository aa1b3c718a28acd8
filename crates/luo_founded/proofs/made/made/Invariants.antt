use Rattle.std.proofs.Common.{length}
use Rattle.luo_model.specs.View.{plain_of}
use Rattle.luo_founded.specs.inner.Marks.{Starts}
use Rattle.luo_founded.proofs.MarkLemmas.{IsBlank, IsSound, unmarked}
use Rattle.luo_model.specs.Founded.{Built}
use Rattle.luo_founded.proofs.made.made.Given as goal

abbrev pub invariant-loop : goal.invariant-loop
invariant-loop l = IsBlank l.counter l.table

abbrev pub invariant-loop-x : goal.invariant-loop-x
invariant-loop-x l = IsSound (Built (Starts l.empty) (plain_of l.program)) (length l.program.nodes) l.table

abbrev pub decreases-loop-x : goal.decreases-loop-x
decreases-loop-x l = unmarked l.table
