use Rattle.std.proofs.Common.{ap, arith, inl, inr}
use Rattle.luo_num.proofs.LimitLines.{lines-say_limits}
use Rattle.luo_answer.specs.declared.status.Status.TheVariants.{Limit}
use Rattle.luo_answer.specs.Answer.{Refusal}
use Rattle.luo_answer.proofs.steps.size.workers_of.Goals as goal

pub returns-then-workers-eq0-clause-passes : goal.returns-then-workers-eq0-clause-passes
returns-then-workers-eq0-clause-passes c = λ w e. record { answers = (inl (omega (arith, c.if-workers-eq0.true, e)), ap (Refusal Limit) lines-say_limits.14) }

pub returns-then-workers-from-clause-passes : goal.returns-then-workers-from-clause-passes
returns-then-workers-from-clause-passes c =
    λ w e. record { answers = (inr (omega (arith, c.if-workers-from.true, c.from.ensures, e)), ap (Refusal Limit) lines-say_limits.14) }
