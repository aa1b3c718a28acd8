use Rattle.std.proofs.Common.{◌-◌}
use Rattle.luo_audit.proofs.WalkLemmas.{OnWay}
use Rattle.luo_audit.proofs.piece.walked.Given as goal

abbrev pub invariant-loop-cursor : goal.invariant-loop-cursor
invariant-loop-cursor l = OnWay l.program l.callee l.fn.cursor l.cursor l.total

abbrev pub decreases-loop-cursor : goal.decreases-loop-cursor
decreases-loop-cursor l = l.cursor.end - l.cursor.place
