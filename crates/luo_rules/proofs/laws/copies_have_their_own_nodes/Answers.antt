use Rattle.std.proofs.Common.{refl}
use Rattle.luo_rules.proofs.laws.copies_have_their_own_nodes.Goals as goal

pub returns : goal.returns
returns c = (refl, refl, refl)
