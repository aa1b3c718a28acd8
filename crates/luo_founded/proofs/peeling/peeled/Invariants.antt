use Rattle.luo_founded.specs.inner.Peeling.{IsPeeled}
use Rattle.luo_founded.proofs.MarkLemmas.{IsBlank, unmarked}
use Rattle.luo_founded.proofs.peeling.peeled.Given as goal

abbrev pub invariant-loop : goal.invariant-loop
invariant-loop l = IsBlank l.counter l.gone

abbrev pub invariant-loop-x : goal.invariant-loop-x
invariant-loop-x l = IsPeeled l.edges l.gone

abbrev pub decreases-loop-x : goal.decreases-loop-x
decreases-loop-x l = unmarked l.gone
