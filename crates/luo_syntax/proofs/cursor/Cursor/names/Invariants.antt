use Rattle.std.proofs.Common.{length}
use Rattle.luo_syntax.proofs.NamesSoFar.{NamesSoFar}
use Rattle.luo_syntax.proofs.cursor.Cursor.names.Given as goal

abbrev pub invariant-names : goal.invariant-names
invariant-names l = NamesSoFar l.fn.close l.initial.self l.self l.names

abbrev pub decreases-names : goal.decreases-names
decreases-names l = length l.self
