-- The expressions of the code as plain data.
use Rattle.std.specs.Prelude.{List, [], ◌∷◌}
use Rattle.luo_equation.specs.declared.equation.Expr.{Expr, Row_of-Expr, end_of-Expr, more_of-Expr}
use Rattle.luo_equation.specs.declared.equation.Expr as made
use Rattle.luo_equation.specs.Expr as plain
use Rattle.luo_equation.specs.declared.equation.Equation.{Equation}
use Rattle.luo_equation.specs.Equation as plain_equation

abbrev mutual
  pub expr_of : Expr → plain.Expr
  expr_of (made.Number c) = plain.Number c
  expr_of (made.Power w) = plain.Power w
  expr_of (made.Series i) = plain.Series i
  expr_of (made.Tau i) = plain.Tau i
  expr_of (made.Sum' shape es) = plain.Sum (exprs_of es)
  expr_of (made.Prod' shape es) = plain.Prod (exprs_of es)
  expr_of (made.Coll' kind shape inner low high) = plain.Coll kind (first_expr inner) low high
  expr_of (made.Point' kind shape inner low high other body) =
      plain.Point kind (first_expr inner) low high (first_expr body)

  pub exprs_of : {n : _} → Row_of-Expr n → plain.Exprs
  exprs_of end_of-Expr = plain.no_exprs
  exprs_of (more_of-Expr e rest) = plain.expr (expr_of e) (exprs_of rest)

  -- the one expression of a box
  pub first_expr : {n : _} → Row_of-Expr n → plain.Expr
  first_expr end_of-Expr = plain.Number 0
  first_expr (more_of-Expr e rest) = expr_of e

abbrev pub expr_list : List Expr → plain.Exprs
expr_list [] = plain.no_exprs
expr_list (e ∷ es) = plain.expr (expr_of e) (expr_list es)

abbrev pub equation_of : Equation → plain_equation.Equation
equation_of e = record { left = e.left; right = expr_of e.right }
