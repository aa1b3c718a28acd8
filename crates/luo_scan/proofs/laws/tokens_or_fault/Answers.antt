use Rattle.std.proofs.Common.{refl}
use Rattle.luo_scan.proofs.Decide.{tokens_or}
use Rattle.luo_scan.proofs.Unique.{not_both}
use Rattle.luo_scan.proofs.laws.tokens_or_fault.Goals as goal

pub returns-clause-some : goal.returns-clause-some
returns-clause-some c = tokens_or

pub returns-clause-one : goal.returns-clause-one
returns-clause-one c = λ text tokens fault place a b. not_both 0 0 place text text tokens fault a b refl
