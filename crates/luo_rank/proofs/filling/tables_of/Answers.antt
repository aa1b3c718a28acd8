use Rattle.luo_rank.proofs.FillLemmas.{all_looked}
use Rattle.luo_rank.proofs.filling.tables_of.Goals as goal

pub returns-clause-looked : goal.returns-clause-looked
returns-clause-looked c = all_looked c.in_ok-bare.bare c.with_all.result c.in_ok-rests.rests c.in_ok-planes.planes c.in_ok-bare.ensures.counted c.in_ok-rests.ensures c.in_ok-planes.ensures c.with_all.ensures
