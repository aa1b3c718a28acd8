use Rattle.luo_scan.proofs.Inside.{tokens_inside}
use Rattle.luo_scan.proofs.laws.tokens_lie_inside.Goals as goal

pub returns : goal.returns
returns c = tokens_inside
