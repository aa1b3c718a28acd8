use Rattle.std.proofs.Common.{◌++◌, ap, ◌∙◌}
use Rattle.luo_scan.proofs.Prefixes.{starts_prefix}
use Rattle.luo_scan.proofs.marks.mark_of.Goals as goal

pub returns-then-starts_with : goal.returns-then-starts_with
returns-then-starts_with c =
    let k = starts_prefix c.args.text.now c.written.result.now c.if-starts_with.ensures.value in
    (k.0, k.1 ∙ ap (λ z. z ++ k.0) c.written.ensures)
