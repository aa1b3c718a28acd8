-- Plain form: sums and products that open sums and products inside them, without idle terms and
-- factors.
use Rattle.std.specs.Prelude.{ℕ, zero, suc, Bool, true, false, ◌||◌, Option}
use Rattle.luo_model.specs.declared.program.Kind.{Kind}
use Rattle.luo_equation.specs.Expr.{Expr, Exprs, Number, Sum, Prod, Point, no_exprs, expr}

abbrev pub join_exprs : Exprs → Exprs → Exprs
join_exprs no_exprs fs = fs
join_exprs (expr e es) fs = expr e (join_exprs es fs)

-- the terms of a sum, or the one term; 0 has none
abbrev pub terms_of : Expr → Exprs
terms_of (Number zero) = no_exprs
terms_of (Sum es) = es
terms_of e = expr e no_exprs

-- each opened in turn
abbrev pub opened : (Expr → Exprs) → Exprs → Exprs
opened f no_exprs = no_exprs
opened f (expr e es) = join_exprs (f e) (opened f es)

abbrev pub all_terms : Exprs → Exprs
all_terms es = opened terms_of es

abbrev pub as_sum : Exprs → Expr
as_sum no_exprs = Number 0
as_sum (expr e no_exprs) = e
as_sum (expr e (expr f fs)) = Sum (expr e (expr f fs))

-- the sum of expressions in plain form: sums are opened and 0 is left out; a sum without terms is
-- 0, and one of one term is that term
unfoldable pub sum_of : Exprs → Expr
sum_of es = as_sum (all_terms es)

-- the factors of a product, or the one factor; 1 has none
abbrev pub factors_of : Expr → Exprs
factors_of (Number (suc zero)) = no_exprs
factors_of (Prod es) = es
factors_of e = expr e no_exprs

abbrev pub all_factors : Exprs → Exprs
all_factors es = opened factors_of es

abbrev pub as_product : Exprs → Expr
as_product no_exprs = Number 1
as_product (expr e no_exprs) = e
as_product (expr e (expr f fs)) = Prod (expr e (expr f fs))

abbrev pub is_zero : Expr → Bool
is_zero (Number zero) = true
is_zero _ = false

abbrev pub has_zero : Exprs → Bool
has_zero no_exprs = false
has_zero (expr e es) = is_zero e || has_zero es

abbrev pub unless_zero : Bool → Expr → Expr
unless_zero true e = Number 0
unless_zero false e = e

-- a product with a factor 0 is 0
abbrev pub closed_product : Exprs → Expr
closed_product es = unless_zero (has_zero es) (as_product es)

-- the product of expressions in plain form: products are opened and 1 is left out; a product
-- without factors is 1, and one of one factor is that factor
unfoldable pub product_of : Exprs → Expr
product_of es = closed_product (all_factors es)

-- a walk whose body is 0 is 0
unfoldable pub walk_of : Kind → Expr → ℕ → Option ℕ → Expr → Expr
walk_of kind inner low high body = unless_zero (is_zero body) (Point kind inner low high body)
