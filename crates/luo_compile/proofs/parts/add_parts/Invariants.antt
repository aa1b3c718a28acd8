use Rattle.std.proofs.Common.{◌≡◌, take}
use Rattle.luo_model.specs.View.{plain_of}
use Rattle.luo_equation.specs.View.{expr_list}
use Rattle.luo_system.specs.Plain.{join_exprs, factors_of, opened}
use Rattle.luo_system.specs.System.{exprs_of, part_expr}
use Rattle.luo_compile.proofs.parts.add_parts.Given as goal

abbrev pub invariant-loop-part : goal.invariant-loop-part
invariant-loop-part l = expr_list l.factors ≡ join_exprs (expr_list l.fn.factors) (opened factors_of (exprs_of (part_expr (plain_of l.program)) (take l.part-index l.parts)))
