use Rattle.std.proofs.Common.{◌∙◌, ◌++◌, ap, subst}
use Rattle.luo_num.proofs.LimitLines.{heads-say_limits}
use Rattle.luo_scan.specs.Faults.{IsFault}
use Rattle.luo_scan.specs.Tokens.{long_name, large_number}
use Rattle.luo_answer.specs.declared.status.Status.TheVariants.{Limit}
use Rattle.luo_answer.specs.Answer.{Refusal}
use Rattle.luo_answer.specs.Lines.{line, at_byte}
use Rattle.luo_top.proofs.lines.fault_refusal.Goals as goal

pub returns-in-Ok-line_at : goal.returns-in-Ok-line_at
returns-in-Ok-line_at c =
    let at = c.in-NameLimit.at in
    (long_name, at, subst (IsFault c.args.text.now) c.in-NameLimit.is c.requires, ap (Refusal Limit) (c.in-Ok-line_at.ensures ∙ ap (λ head. line (head ++ at_byte at)) heads-say_limits.0))

pub returns-in-Ok-line_at-2 : goal.returns-in-Ok-line_at-2
returns-in-Ok-line_at-2 c =
    let at = c.in-NumberLimit.at in
    (large_number, at, subst (IsFault c.args.text.now) c.in-NumberLimit.is c.requires, ap (Refusal Limit) (c.in-Ok-line_at-2.ensures ∙ ap (λ head. line (head ++ at_byte at)) heads-say_limits.1))
