use Rattle.std.proofs.Common.{◌≡◌, ◌++◌, codes, take, flat_map}
use Rattle.luo_print.proofs.StatementTexts.{stmt_line, arm_line}
use Rattle.luo_print.proofs.statements.+statements.Given as goal

abbrev pub invariant-put_stmts-loop-stmt : goal.invariant-put_stmts-loop-stmt
invariant-put_stmts-loop-stmt l = l.text.items ≡ l.initial.text.items ++ flat_map (λ s. codes ";" ++ stmt_line l.indent s) (take l.stmt-index l.rest)

abbrev pub invariant-put_arms-loop-arm : goal.invariant-put_arms-loop-arm
invariant-put_arms-loop-arm l = l.text.items ≡ l.initial.text.items ++ flat_map (λ a. codes ";" ++ arm_line l.indent a) (take l.arm-index l.rest)
