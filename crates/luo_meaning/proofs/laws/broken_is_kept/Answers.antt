use Rattle.luo_meaning.proofs.BrokenKept.{broken_kept}
use Rattle.luo_meaning.proofs.laws.broken_is_kept.Goals as goal

pub returns : goal.returns
returns c = λ source is. broken_kept source is
