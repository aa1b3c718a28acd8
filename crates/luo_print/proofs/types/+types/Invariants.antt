use Rattle.std.proofs.Common.{◌≡◌, ◌++◌, take, flat_map}
use Rattle.luo_source.specs.View.{expr_of}
use Rattle.luo_print.specs.CanonicalTypes.{expr_text}
use Rattle.luo_print.proofs.types.+types.Given as goal

abbrev pub invariant-put_exprs-loop-expr : goal.invariant-put_exprs-loop-expr
invariant-put_exprs-loop-expr l = l.text.items ≡ l.initial.text.items ++ flat_map (λ e. l.between ++ expr_text (expr_of e)) (take l.expr-index l.rest)
