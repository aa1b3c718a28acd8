use Rattle.std.proofs.Common.{ap, arith}
use Rattle.luo_num.proofs.LimitLines.{lines-say_limits}
use Rattle.luo_answer.specs.declared.status.Status.TheVariants.{Limit}
use Rattle.luo_answer.specs.Answer.{Refusal}
use Rattle.luo_answer.proofs.steps.listing.counted.Goals as goal

pub returns-then-most-from : goal.returns-then-most-from
returns-then-most-from c =
    λ n e. record { answers = (omega (arith, c.if-most-from.true, c.from.ensures, e), ap (Refusal Limit) lines-say_limits.13) }
