use Rattle.std.proofs.Common.{◌≡◌, take, sum_by}
use Rattle.luo_num.specs.Mark.{capped}
use Rattle.luo_rules.specs.Counted.{greatest_by}
use Rattle.luo_types.specs.inner.Held.{nodes_in, multisets_in, parts_in, bound_in}
use Rattle.luo_types.proofs.counts.+counts.Given as goal

abbrev pub invariant-count_exprs-loop-expr : goal.invariant-count_exprs-loop-expr
invariant-count_exprs-loop-expr l =
    (l.all.nodes ≡ capped (sum_by nodes_in (take l.expr-index l.exprs)))
    × (l.all.multisets ≡ capped (sum_by multisets_in (take l.expr-index l.exprs)))
    × (l.all.parts ≡ greatest_by parts_in (take l.expr-index l.exprs))
    × (l.all.bound ≡ greatest_by bound_in (take l.expr-index l.exprs))
