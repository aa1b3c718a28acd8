use Rattle.std.proofs.Common.{refl}
use Rattle.luo_scan.proofs.Unique.{one_list}
use Rattle.luo_scan.proofs.laws.tokens_are_unique.Goals as goal

pub returns : goal.returns
returns c = λ text one two a b. one_list 0 0 text text one two a b refl refl
