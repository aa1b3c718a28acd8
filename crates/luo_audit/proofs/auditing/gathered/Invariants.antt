use Rattle.luo_audit.proofs.WalkLemmas.{AreGathered}
use Rattle.luo_audit.proofs.auditing.gathered.Given as goal

abbrev pub invariant-loop-i : goal.invariant-loop-i
invariant-loop-i l = AreGathered l._program l._callee l.n l.workers l.i l.sums l.total
