use Rattle.std.proofs.Common.{ap}
use Rattle.luo_model.specs.View.{plain_of}
use Rattle.luo_equation.specs.Expr.{Number}
use Rattle.luo_equation.specs.View.{expr_list}
use Rattle.luo_system.specs.System.{exprs_of, part_expr}
use Rattle.luo_compile.proofs.BodyLemmas.{product_put}
use Rattle.luo_compile.proofs.bodies.own.Goals as goal

pub returns : goal.returns
returns c =
    product_put (Number c.args.own) (exprs_of (part_expr (plain_of c.args.program.now)) c.args.whole.now) _ _ _ _ (ap expr_list c.new-factors.ensures) c.in_ok-add_factor.ensures
    c.in_ok-add_parts.ensures c.product_of_factors.ensures
