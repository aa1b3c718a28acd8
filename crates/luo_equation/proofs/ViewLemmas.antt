-- Expressions of the code whose parts are in a list or a box, as plain data.
use Rattle.std.proofs.Common.{◌≡◌, ℕ, List, [], ◌∷◌, ◌++◌, Option, refl, sym, ap, ◌∙◌}
use mathlib.Core.Former.{Count}
use denote.Hole.Carrier.{hidden}
use Rattle.luo_model.specs.declared.program.Kind.{Kind}
use Rattle.luo_equation.specs.declared.equation.Expr.{Expr, Sum, Prod, Sum', Prod', Coll, Point, Row_of-Expr, end_of-Expr, more_of-Expr, items-the_row-Expr, items_hidden-the_row-Expr-0}
use Rattle.luo_equation.specs.Expr as plain
use Rattle.luo_equation.specs.View.{expr_of, exprs_of, expr_list}

exprs_row : (n : _) (row : Row_of-Expr n) → exprs_of row ≡ expr_list (items-the_row-Expr n row)
exprs_row n end_of-Expr = refl
exprs_row n (more_of-Expr e rest) = ap (λ l. plain.expr (expr_of e) l) (exprs_row _ rest)

abbrev row_in : Expr → (n : Count) × Row_of-Expr n
row_in (Sum' _ row) = (_, row)
row_in (Prod' _ row) = (_, row)
row_in _ = (_, end_of-Expr)

pub sum_view : (es : List Expr) → expr_of (Sum es) ≡ plain.Sum (expr_list es)
sum_view es = let row = row_in (Sum es) in ap plain.Sum (exprs_row row.0 row.1 ∙ ap expr_list (items_hidden-the_row-Expr-0 es))

pub product_view : (es : List Expr) → expr_of (Prod es) ≡ plain.Prod (expr_list es)
product_view es = let row = row_in (Prod es) in ap plain.Prod (exprs_row row.0 row.1 ∙ ap expr_list (items_hidden-the_row-Expr-0 es))

pub coll_view : (kind : Kind) (inner : Expr) (low : ℕ) (high : Option ℕ) → expr_of (Coll kind inner low high) ≡ plain.Coll kind (expr_of inner) low high
unfolding Rattle.luo_equation.specs.declared.equation.Expr.TheBlock.hidden-the_row-Expr-1 hidden
coll_view kind inner low high = refl

pub point_view : (kind : Kind) (inner : Expr) (low : ℕ) (high : Option ℕ) (body : Expr) → expr_of (Point kind inner low high body) ≡ plain.Point kind (expr_of inner) low high (expr_of body)
unfolding Rattle.luo_equation.specs.declared.equation.Expr.TheBlock.hidden-the_row-Expr-1 hidden
point_view kind inner low high body = refl
