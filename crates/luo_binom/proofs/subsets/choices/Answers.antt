use Rattle.luo_binom.proofs.CellLemmas.{few_exact}
use Rattle.luo_binom.proofs.subsets.choices.Goals as goal

pub returns : goal.returns
returns c = few_exact c.args.n c.args.k c.marked.result c.requires.few c.marked.ensures
