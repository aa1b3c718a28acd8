use Rattle.std.proofs.Common.{◌∙◌, ℕ, List, subst, arith}
use Rattle.luo_model.specs.View.{Held, plain_of}
use Rattle.luo_model.specs.Founded.{IsFounded}
use Rattle.luo_model.specs.Tables.{IsCount}
use Rattle.luo_audit.specs.Audit.{AreCharges}
use Rattle.luo_audit.specs.inner.Answered.{Gathers}
use Rattle.luo_audit.proofs.AuditLemmas.{audit_right}
use Rattle.luo_audit.proofs.auditing.audit_few.Goals as goal

pub returns : goal.returns
returns g c =
    let on = c.requires.on in
    audit_right (plain_of c.args.program.now) c.args.callee c.args.n on.0 on.1 c.requires.valid
    (subst (λ (h : Held). IsFounded (plain_of h)) c.requires.same c.program-program.ensures.founded)
    c.args.workers c.at-count.result
    (subst (λ (h : Held). IsCount (plain_of h) on.0.on.node c.args.n c.at-count.result) c.requires.counted
    (subst (λ x. IsCount (plain_of c.args.counts.now.program) x c.args.n c.at-count.result) on.2 c.at-count.ensures.count))
    (omega (arith, c.if-count-gt-WALKED_LIMIT.false)) c.gathered.result c.gathered.ensures.row
    (subst (λ (h : Held). (charges : List ℕ) → AreCharges (plain_of h) c.args.callee c.args.n charges → Gathers charges c.args.workers c.gathered.result)
    (c.program-program.ensures.same ∙ c.requires.same) c.gathered.ensures.sums)
