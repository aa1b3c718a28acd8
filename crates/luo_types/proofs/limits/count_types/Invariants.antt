use Rattle.std.proofs.Common.{◌≡◌, ◌*◌, take, length, sum_by}
use Rattle.luo_num.specs.Mark.{capped}
use Rattle.luo_rules.specs.Counted.{greatest_by}
use Rattle.luo_types.specs.inner.Held.{nodes_in, multisets_in, parts_in, bound_in}
use Rattle.luo_types.proofs.limits.count_types.Given as goal

abbrev pub invariant-loop-def : goal.invariant-loop-def
invariant-loop-def l =
    (l.all.nodes ≡ capped (sum_by (λ d. length d.names * nodes_in d.body) (take l.def-index l.types)))
    × (l.all.multisets ≡ capped (sum_by (λ d. length d.names * multisets_in d.body) (take l.def-index l.types)))
    × (l.all.parts ≡ greatest_by (λ d. parts_in d.body) (take l.def-index l.types))
    × (l.all.bound ≡ greatest_by (λ d. bound_in d.body) (take l.def-index l.types))
