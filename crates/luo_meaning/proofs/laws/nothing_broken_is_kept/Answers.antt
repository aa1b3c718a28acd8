use Rattle.luo_meaning.proofs.BrokenKept.{nothing_kept}
use Rattle.luo_meaning.proofs.laws.nothing_broken_is_kept.Goals as goal

pub returns : goal.returns
returns c = λ source is. nothing_kept source is
