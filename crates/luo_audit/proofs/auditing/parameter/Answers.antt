use Rattle.std.proofs.Common.{◌∙◌, ap, refl, subst}
use Rattle.luo_model.specs.View.{Held, plain_of, procedure_of}
use Rattle.luo_model.specs.Invariant.{IsProgram}
use Rattle.luo_audit.proofs.AuditLemmas.{plain_there, node_there}
use Rattle.luo_audit.proofs.auditing.parameter.Goals as goal

pub returns-clause-there : goal.returns-clause-there
returns-clause-there c =
    node_there c.args.program.now c.as_slice.result.now (c.as_slice.ensures ∙ ap (λ (h : Held). h.procs) c.program.view_is) c.args.callee c.procedure_at.result.now c.procedure_at.ensures
    (subst (λ (h : Held). IsProgram (plain_of h)) c.program.view_is c.program.invariant)

pub returns-clause-on : goal.returns-clause-on
returns-clause-on c = (
  procedure_of c.procedure_at.result.now,
  plain_there c.args.program.now c.as_slice.result.now (c.as_slice.ensures ∙ ap (λ (h : Held). h.procs) c.program.view_is) c.args.callee c.procedure_at.result.now c.procedure_at.ensures,
  refl,
)
