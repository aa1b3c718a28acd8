use Rattle.std.proofs.Common.{ap, arith}
use Rattle.luo_num.proofs.LimitLines.{lines-say_limits}
use Rattle.luo_answer.specs.declared.status.Status.TheVariants.{Limit}
use Rattle.luo_answer.specs.Answer.{Refusal}
use Rattle.luo_answer.proofs.steps.size.list_sized.Goals as goal

pub returns-then-last-from-clause-passes : goal.returns-then-last-from-clause-passes
returns-then-last-from-clause-passes c =
    λ n e. record { answers = (omega (arith, c.if-last-from.true, c.from.ensures, e), ap (Refusal Limit) lines-say_limits.12) }
