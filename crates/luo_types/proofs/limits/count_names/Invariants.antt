use Rattle.std.proofs.Common.{◌≡◌, take, length, sum_by}
use Rattle.luo_num.specs.Mark.{capped}
use Rattle.luo_types.proofs.limits.count_names.Given as goal

abbrev pub invariant-loop-def : goal.invariant-loop-def
invariant-loop-def l = l.total ≡ capped (sum_by (λ d. length d.names) (take l.def-index l.types))
