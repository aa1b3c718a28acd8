use Rattle.std.proofs.Common.{◌∙◌, ◌++◌, ap, subst}
use Rattle.luo_num.proofs.LimitLines.{lines-say_limits, heads-say_limits}
use Rattle.luo_read.specs.declared.answers.StructError.TheVariants.{Long, S1, Deep, S3}
use Rattle.luo_read.specs.Reading.{Refuses}
use Rattle.luo_answer.specs.declared.status.Status.TheVariants.{Refused, Limit}
use Rattle.luo_answer.specs.Answer.{Refusal}
use Rattle.luo_answer.specs.Lines.{line, at_byte}
use Rattle.luo_answer.proofs.steps.structure.structure_refusal.Goals as goal

pub returns-in-Long : goal.returns-in-Long
returns-in-Long c = λ p x word h. (Long c.in-Long.len, subst (Refuses p x word) c.in-Long.is h, ap (Refusal Limit) lines-say_limits.11)

pub returns-in-Ok : goal.returns-in-Ok
returns-in-Ok c = λ p x word h. (S1 c.in-S1.at, subst (Refuses p x word) c.in-S1.is h, ap (Refusal Refused) c.in-Ok.ensures)

pub returns-in-Ok-line_at : goal.returns-in-Ok-line_at
returns-in-Ok-line_at c = λ p x word h.
    let at = c.in-Deep.at in
    (Deep at, subst (Refuses p x word) c.in-Deep.is h, ap (Refusal Limit) (c.in-Ok-line_at.ensures ∙ ap (λ head. line (head ++ at_byte at)) heads-say_limits.3))

pub returns-in-Ok-size_line : goal.returns-in-Ok-size_line
returns-in-Ok-size_line c = λ p x word h. (S3 c.in-S3.size, subst (Refuses p x word) c.in-S3.is h, ap (Refusal Refused) c.in-Ok-size_line.ensures)
