use Rattle.std.proofs.Common.{◌≡◌, suc, take, sum_by}
use Rattle.luo_num.specs.Mark.{capped}
use Rattle.luo_types.specs.inner.Held.{statements_in}
use Rattle.luo_types.proofs.statement_counts.+statements.Given as goal

abbrev pub invariant-count_case-loop-arm : goal.invariant-count_case-loop-arm
invariant-count_case-loop-arm l = l.total ≡ capped (suc (sum_by (λ a. statements_in a.body) (take l.arm-index l.arms)))

abbrev pub invariant-count_stmts-loop-stmt : goal.invariant-count_stmts-loop-stmt
invariant-count_stmts-loop-stmt l = l.total ≡ capped (sum_by statements_in (take l.stmt-index l.stmts))
