use Rattle.std.proofs.Common.{arith}
use Rattle.luo_answer.proofs.StepLemmas.{go, stop}
use Rattle.luo_answer.proofs.commands.audit.audit_of.Goals as goal

pub tables-requires-clause-size : goal.tables-requires-clause-size
tables-requires-clause-size g c = omega (arith, c.in_ok-size.ensures.size)

pub returns-in_err-size : goal.returns-in_err-size
returns-in_err-size g c = λ n w e d. stop _ (c.in_err-size.ensures.passes n e) c.from_residual.ensures.1

pub returns-in_err-many : goal.returns-in_err-many
returns-in_err-many g c = λ n w e d. go _ (c.in_ok-size.ensures.passes n e) (stop _ (c.in_err-many.ensures.passes w d) c.from_residual-in_err-many.ensures.1)

pub returns-in_err-engine : goal.returns-in_err-engine
returns-in_err-engine g c =
    λ n w e d. go _ (c.in_ok-size.ensures.passes n e) (go _ (c.in_ok-many.ensures.passes w d) (stop _ c.in_err-engine.ensures.passes c.from_residual-in_err-engine.ensures.1))

pub returns : goal.returns
returns g c = λ n w e d. go _ (c.in_ok-size.ensures.passes n e) (go _ (c.in_ok-many.ensures.passes w d) (go _ c.in_ok-engine.ensures.passes c.audit_counted-text.ensures))
