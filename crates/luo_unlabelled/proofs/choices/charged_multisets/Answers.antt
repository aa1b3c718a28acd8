use Rattle.luo_unlabelled.proofs.ChoiceLemmas.{repeats_charged}
use Rattle.luo_unlabelled.proofs.choices.charged_multisets.Goals as goal

pub returns-else-j-eq0 : goal.returns-else-j-eq0
returns-else-j-eq0 c = repeats_charged c.args.c c.args.charge c.args.j c.binomial.result c.marked_mul.result c.if-j-eq0.false c.binomial.ensures c.marked_mul.ensures
