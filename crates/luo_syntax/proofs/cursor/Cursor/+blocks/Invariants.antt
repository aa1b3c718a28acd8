use Rattle.std.proofs.Common.{◌+◌, ◌*◌, length}
use Rattle.luo_syntax.proofs.StatementsSteps.{StmtsSoFar, ArmsSoFar}
use Rattle.luo_syntax.proofs.cursor.Cursor.+blocks.Given as goal

abbrev pub decreases-simple : goal.decreases-simple
decreases-simple l = 4 * length l.self.now

abbrev pub decreases-case_behind : goal.decreases-case_behind
decreases-case_behind l = 4 * length l.self.now + 1

abbrev pub decreases-forall_behind : goal.decreases-forall_behind
decreases-forall_behind l = 4 * length l.self.now + 1

abbrev pub decreases-stmt : goal.decreases-stmt
decreases-stmt l = 4 * length l.self.now + 1

abbrev pub decreases-arm : goal.decreases-arm
decreases-arm l = 4 * length l.self.now + 1

abbrev pub decreases-stmts : goal.decreases-stmts
decreases-stmts l = 4 * length l.self.now + 2

abbrev pub decreases-arms : goal.decreases-arms
decreases-arms l = 4 * length l.self.now + 2

abbrev pub decreases-inside : goal.decreases-inside
decreases-inside l = 4 * length l.self.now + 3

abbrev pub invariant-stmts-stmts : goal.invariant-stmts-stmts
invariant-stmts-stmts l = StmtsSoFar l.initial.self l.self l.stmts

abbrev pub decreases-stmts-stmts : goal.decreases-stmts-stmts
decreases-stmts-stmts l = length l.self

abbrev pub invariant-arms-arms : goal.invariant-arms-arms
invariant-arms-arms l = ArmsSoFar l.initial.self l.self l.arms

abbrev pub decreases-arms-arms : goal.decreases-arms-arms
decreases-arms-arms l = length l.self
