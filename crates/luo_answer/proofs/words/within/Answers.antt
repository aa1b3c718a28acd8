use Rattle.std.proofs.Common.{arith, subst}
use Rattle.luo_num.proofs.LimitLines.{lines-say_limits}
use Rattle.luo_answer.specs.inner.Requests.{IsRequest}
use Rattle.luo_answer.proofs.AskedLemmas.{number_over, size_over}
use Rattle.luo_answer.proofs.words.within.Goals as goal

pub returns-then-number-gt-SAMPLE_LIMIT : goal.returns-then-number-gt-SAMPLE_LIMIT
returns-then-number-gt-SAMPLE_LIMIT c =
    λ command h. number_over command c.in-Sample.number c.in-Sample.last _ (subst (IsRequest command) c.in-Sample.is h) c.if-number-gt-SAMPLE_LIMIT.true lines-say_limits.16

pub returns-then-last-from : goal.returns-then-last-from
returns-then-last-from c =
    λ command h. size_over command c.in-Sample.number c.in-Sample.last _ (subst (IsRequest command) c.in-Sample.is h) (omega (arith, c.if-number-gt-SAMPLE_LIMIT.false)) (omega (arith, c.if-last-from.true, c.from.ensures)) lines-say_limits.10
