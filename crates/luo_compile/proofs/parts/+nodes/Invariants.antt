use Rattle.std.proofs.Common.{◌≡◌, ◌*◌, ◌+◌, take}
use Rattle.luo_model.specs.View.{plain_of}
use Rattle.luo_equation.specs.View.{expr_list}
use Rattle.luo_system.specs.Plain.{terms_of, factors_of, opened}
use Rattle.luo_system.specs.System.{exprs_of, inside_expr}
use Rattle.luo_compile.proofs.parts.+nodes.Given as goal

abbrev pub decreases-node : goal.decreases-node
decreases-node l = 3 * l.depth

abbrev pub decreases-inside : goal.decreases-inside
decreases-inside l = 3 * l.depth + 1

abbrev pub decreases-union : goal.decreases-union
decreases-union l = 3 * l.depth + 2

abbrev pub decreases-product : goal.decreases-product
decreases-product l = 3 * l.depth + 2

abbrev pub invariant-union-loop-part : goal.invariant-union-loop-part
invariant-union-loop-part l = expr_list l.terms ≡ opened terms_of (exprs_of (inside_expr (plain_of l.program) l.depth) (take l.part-index l.parts))

abbrev pub invariant-product-loop-part : goal.invariant-product-loop-part
invariant-product-loop-part l = expr_list l.factors ≡ opened factors_of (exprs_of (inside_expr (plain_of l.program) l.depth) (take l.part-index l.parts))
