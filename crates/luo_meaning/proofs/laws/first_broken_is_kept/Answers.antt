use Rattle.luo_meaning.proofs.BrokenKept.{first_kept}
use Rattle.luo_meaning.proofs.laws.first_broken_is_kept.Goals as goal

pub returns : goal.returns
returns c = λ source is. first_kept source is
