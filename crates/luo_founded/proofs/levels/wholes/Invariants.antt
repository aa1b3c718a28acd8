use Rattle.luo_model.specs.View.{plain_of}
use Rattle.luo_founded.proofs.LongestLemmas.{AreZeros}
use Rattle.luo_founded.proofs.LevelLemmas.{AreWholesTo}
use Rattle.luo_founded.proofs.levels.wholes.Given as goal

abbrev pub invariant-loop : goal.invariant-loop
invariant-loop l = AreZeros l.counter l.wholes

abbrev pub invariant-loop-2 : goal.invariant-loop-2
invariant-loop-2 l = AreWholesTo (plain_of l.program) l.counter l.wholes
