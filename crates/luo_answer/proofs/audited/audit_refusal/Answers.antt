use Rattle.std.proofs.Common.{◌≡◌, ◌≤◌, ◌<◌, ℕ, subst, arith}
use Rattle.luo_num.specs.declared.limits.TheConstants.{WALKED_LIMIT}
use Rattle.luo_model.specs.Program.{Program}
use Rattle.luo_model.specs.View.{plain_of}
use Rattle.luo_audit.specs.declared.auditing.AuditError.{AuditError}
use Rattle.luo_audit.specs.declared.auditing.AuditError.TheVariants.{TooMany}
use Rattle.luo_audit.specs.Audit.{CountIs, Explains}
use Rattle.luo_answer.proofs.audited.audit_refusal.Goals as goal

-- where structures are few, there are never too many
never_too_many : (p : Program) (f n : ℕ) {e : AuditError} {c : ℕ} → ((d : ℕ) → CountIs p f n d → d ≤ WALKED_LIMIT) → e ≡ TooMany c → Explains p f n e → ⊥
never_too_many p f n {e = e} {c = c} few same h = let k : CountIs p f n c × (WALKED_LIMIT < c) = subst (Explains p f n) same h in omega (arith, few c k.0, k.1)

pub returns-in-TooMany : goal.returns-in-TooMany
returns-in-TooMany c = absurd (never_too_many (plain_of c.args.program.now) c.args.f c.args.n c.requires.few c.in-TooMany.is c.requires.cause)
