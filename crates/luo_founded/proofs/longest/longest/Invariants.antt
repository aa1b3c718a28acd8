use Rattle.luo_founded.specs.inner.Longest.{AreLongestTo}
use Rattle.luo_founded.proofs.LongestLemmas.{AreZeros}
use Rattle.luo_founded.proofs.longest.longest.Given as goal

abbrev pub invariant-loop : goal.invariant-loop
invariant-loop l = AreZeros l.counter l.ranks

abbrev pub invariant-loop-2 : goal.invariant-loop-2
invariant-loop-2 l = AreLongestTo l.edges l.counter l.ranks
