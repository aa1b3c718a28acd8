use Rattle.std.proofs.Common.{arith, subst}
use Rattle.luo_model.specs.Invariant.{IsProgram}
use Rattle.luo_model.specs.View.{Held, plain_of}
use Rattle.luo_answer.specs.inner.Audited.{AuditsRows}
use Rattle.luo_answer.proofs.AuditLemmas.{none_audited, audited_more, audited_all, row_refused}
use Rattle.luo_answer.proofs.StepLemmas.{same_error}
use Rattle.luo_answer.proofs.audited.rows_of.Goals as goal

pub loop-n-init : goal.loop-n-init
loop-n-init g c = none_audited (plain_of c.args.program.now) c.args.f c.new-rows.result c.new-rows.ensures

pub row_of-requires-clause-few : goal.row_of-requires-clause-few
row_of-requires-clause-few g c = λ lts live d h. c.requires.few c.loop-n.n d (omega (arith, c.loop-n-test.true)) h

pub returns-in_err-row : goal.returns-in_err-row
returns-in_err-row g c =
    same_error (AuditsRows (plain_of c.args.program.now) c.args.f c.args.last) _ _ c.from_residual.ensures.1
    (row_refused (plain_of c.args.program.now) c.args.f c.args.last c.loop-n.n c.loop-n.rows (omega (arith, c.loop-n-test.true)) c.loop-n.invariant _ c.in_err-row.ensures)

pub loop-n-preserved : goal.loop-n-preserved
loop-n-preserved g c =
    audited_more (plain_of c.args.program.now) (subst (λ (h : Held). IsProgram (plain_of h)) c.program.view_is c.program.invariant) c.args.f c.loop-n.n c.loop-n.rows c.push.new.self c.in_ok-row.row c.loop-n.invariant c.in_ok-row.ensures c.in_ok-push.ensures.ok

pub returns : goal.returns
returns g c =
    audited_all (plain_of c.args.program.now) c.args.f c.args.last c.loop-n.n c.loop-n.rows (omega (arith, c.loop-n-test.false, c.loop-n.auto.n-end)) c.loop-n.invariant
