use Rattle.std.proofs.Common.{ap, sym, ◌∙◌}
use Rattle.luo_num.specs.Mark.{capped}
use Rattle.luo_counting.proofs.Binomials.{repeats_none, repeats_some}
use Rattle.luo_unlabelled.proofs.choices.multisets.Goals as goal

pub returns-then-j-eq0 : goal.returns-then-j-eq0
returns-then-j-eq0 c = repeats_none c.args.c c.args.j c.if-j-eq0.true

pub returns-else-j-eq0 : goal.returns-else-j-eq0
returns-else-j-eq0 c = c.binomial.ensures ∙ ap capped (sym (repeats_some c.args.c c.args.j c.if-j-eq0.false))
