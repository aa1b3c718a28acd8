use Rattle.luo_model.specs.View.{plain_of}
use Rattle.luo_audit.proofs.AuditLemmas.{too_many, over}
use Rattle.luo_audit.proofs.auditing.audit.Goals as goal

pub returns-clause-too_many : goal.returns-clause-too_many
returns-clause-too_many g c = too_many (plain_of c.args.program.now) c.args.callee c.args.n c.args.workers c.audit_few.result c.audit_few.ensures

pub returns-clause-over : goal.returns-clause-over
returns-clause-over g c = over (plain_of c.args.program.now) c.args.callee c.args.n c.parameter-node.ensures.valid c.args.workers c.audit_few.result c.audit_few.ensures
