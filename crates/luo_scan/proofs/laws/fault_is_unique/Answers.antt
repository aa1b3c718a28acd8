use Rattle.std.proofs.Common.{refl}
use Rattle.luo_scan.proofs.Unique.{one_fault}
use Rattle.luo_scan.proofs.laws.fault_is_unique.Goals as goal

pub returns : goal.returns
returns c = λ text one two here there a b. one_fault 0 0 here there text text one two a b refl refl
