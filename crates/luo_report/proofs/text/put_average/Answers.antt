use Rattle.std.proofs.Common.{◌++◌, ap, ◌∙◌}
use Rattle.luo_report.proofs.AverageLemmas.{same_text}
use Rattle.luo_report.proofs.text.put_average.Goals as goal

pub returns : goal.returns
returns c =
    c.in_ok-put_fraction.ensures ∙ ap (λ s. c.args.text.now.items ++ s) (same_text c.args.total c.args.count c.average.result c.average.ensures)
