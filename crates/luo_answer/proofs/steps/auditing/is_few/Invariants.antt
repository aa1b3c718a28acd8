use Rattle.luo_model.specs.View.{plain_of}
use Rattle.luo_answer.proofs.AuditLemmas.{AreFewTo}
use Rattle.luo_answer.proofs.steps.auditing.is_few.Given as goal

abbrev pub invariant-loop-n : goal.invariant-loop-n
invariant-loop-n l = AreFewTo (plain_of l.program) l.f l.n
