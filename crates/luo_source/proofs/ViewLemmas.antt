-- Parts of a source that are in a list or a box, as plain data.
use Rattle.std.proofs.Common.{◌≡◌, ℕ, List, Option, refl, ap, ◌∙◌}
use mathlib.Core.Former.{Count}
use denote.Hole.Carrier.{hidden}
use Rattle.luo_model.specs.declared.program.Kind.{Kind}
use Rattle.luo_source.specs.declared.names.Name.{Name}
use Rattle.luo_source.specs.declared.types.Bound.{Bound}
use Rattle.luo_source.specs.declared.types.TypeExpr as expr
use Rattle.luo_source.specs.declared.types.TypeExpr.{TypeExpr, Union', Product', Row_of-TypeExpr, end_of-TypeExpr, more_of-TypeExpr, items-the_row-TypeExpr, items_hidden-the_row-TypeExpr-0, items_hidden-the_row-TypeExpr-1}
use Rattle.luo_source.specs.declared.statements.SourceArm.{SourceArm}
use Rattle.luo_source.specs.declared.statements.Stmt as made
use Rattle.luo_source.specs.declared.statements.Stmt.{Stmt, Block', Case', Row_of-Stmt, end_of-Stmt, more_of-Stmt, items-the_row-Stmt, items_hidden-the_row-Stmt-0, Row_of-SourceArm, end_of-SourceArm, more_of-SourceArm, items-the_row-SourceArm, items_hidden-the_row-SourceArm-1}
use Rattle.luo_source.specs.declared.values.SourceValueArm.{SourceValueArm}
use Rattle.luo_source.specs.declared.values.SourceValue as val
use Rattle.luo_source.specs.declared.values.SourceValue.{SourceValue, Row_of-SourceValue, end_of-SourceValue, more_of-SourceValue, items-the_row-SourceValue, items_hidden-the_row-SourceValue-0, Row_of-SourceValueArm, end_of-SourceValueArm, more_of-SourceValueArm, items-the_row-SourceValueArm, items_hidden-the_row-SourceValueArm-2}
use Rattle.luo_source.specs.Plain.Types as types
use Rattle.luo_source.specs.Plain.Statements as statements
use Rattle.luo_source.specs.Plain.Values as values
use Rattle.luo_source.specs.View.{expr_of, exprs_of, expr_list, held_expr, held_exprs, stmt_of, stmts_of, stmt_list, source_arms_of, source_arm_list, source_value_of, source_values_of, source_value_list, source_value_arms_of, source_value_arm_list}

exprs_row : (k : _) (row : Row_of-TypeExpr k) → exprs_of row ≡ expr_list (items-the_row-TypeExpr k row)
exprs_row k end_of-TypeExpr = refl
exprs_row k (more_of-TypeExpr e rest) = ap (types.an_expr (expr_of e)) (exprs_row _ rest)

stmts_row : (k : _) (row : Row_of-Stmt k) → stmts_of row ≡ stmt_list (items-the_row-Stmt k row)
stmts_row k end_of-Stmt = refl
stmts_row k (more_of-Stmt s rest) = ap (statements.a_stmt (stmt_of s)) (stmts_row _ rest)

arms_row : (k : _) (row : Row_of-SourceArm k) → source_arms_of row ≡ source_arm_list (items-the_row-SourceArm k row)
arms_row k end_of-SourceArm = refl
arms_row k (more_of-SourceArm pattern body rest) = ap (statements.a_source_arm pattern (stmt_of body)) (arms_row _ rest)

values_row : (k : _) (row : Row_of-SourceValue k) → source_values_of row ≡ source_value_list (items-the_row-SourceValue k row)
values_row k end_of-SourceValue = refl
values_row k (more_of-SourceValue v rest) = ap (values.a_source_value (source_value_of v)) (values_row _ rest)

value_arms_row : (k : _) (row : Row_of-SourceValueArm k) → source_value_arms_of row ≡ source_value_arm_list (items-the_row-SourceValueArm k row)
value_arms_row k end_of-SourceValueArm = refl
value_arms_row k (more_of-SourceValueArm pattern body rest) = ap (values.a_source_value_arm pattern (source_value_of body)) (value_arms_row _ rest)

abbrev parts_in : TypeExpr → (k : Count) × Row_of-TypeExpr k
parts_in (Union' _ row) = (_, row)
parts_in (Product' _ row _) = (_, row)
parts_in _ = (_, end_of-TypeExpr)

abbrev stmts_in : Stmt → (k : Count) × Row_of-Stmt k
stmts_in (Block' _ row) = (_, row)
stmts_in _ = (_, end_of-Stmt)

abbrev arms_in : Stmt → (k : Count) × Row_of-SourceArm k
arms_in (Case' _ _ row) = (_, row)
arms_in _ = (_, end_of-SourceArm)

abbrev values_in : SourceValue → (k : Count) × Row_of-SourceValue k
values_in (val.Tuple' _ row _) = (_, row)
values_in _ = (_, end_of-SourceValue)

abbrev value_arms_in : SourceValue → (k : Count) × Row_of-SourceValueArm k
value_arms_in (val.Case' _ _ row) = (_, row)
value_arms_in _ = (_, end_of-SourceValueArm)

pub union_expr : (parts : List TypeExpr) → expr_of (expr.Union parts) ≡ types.Union (expr_list parts)
union_expr parts = let row = parts_in (expr.Union parts) in ap types.Union (exprs_row row.0 row.1 ∙ ap expr_list (items_hidden-the_row-TypeExpr-0 parts))

pub product_expr : (parts : List TypeExpr) (at : ℕ) → expr_of (expr.Product parts at) ≡ types.Product (expr_list parts) at
product_expr parts at = let row = parts_in (expr.Product parts at) in ap (λ z. types.Product z at) (exprs_row row.0 row.1 ∙ ap expr_list (items_hidden-the_row-TypeExpr-0 parts))

pub coll_expr : (kind : Kind) (part : TypeExpr) (bound : Option Bound) (at : ℕ) → expr_of (expr.Coll kind part bound at) ≡ types.Coll kind (expr_of part) bound at
unfolding Rattle.luo_source.specs.declared.types.TypeExpr.TheBlock.hidden-the_row-TypeExpr-1 hidden
coll_expr kind part bound at = refl

pub block_stmt : (stmts : List Stmt) → stmt_of (made.Block stmts) ≡ statements.Block (stmt_list stmts)
block_stmt stmts = let row = stmts_in (made.Block stmts) in ap statements.Block (stmts_row row.0 row.1 ∙ ap stmt_list (items_hidden-the_row-Stmt-0 stmts))

pub case_stmt : (var : Name) (arms : List SourceArm) → stmt_of (made.Case var arms) ≡ statements.Case var (source_arm_list arms)
case_stmt var arms = let row = arms_in (made.Case var arms) in ap (statements.Case var) (arms_row row.0 row.1 ∙ ap source_arm_list (items_hidden-the_row-SourceArm-1 arms))

pub walk_stmt : (var source : Name) (body : Stmt) → stmt_of (made.Forall var source body) ≡ statements.Forall var source (stmt_of body)
unfolding Rattle.luo_source.specs.declared.statements.Stmt.TheBlock.hidden-the_row-Stmt-2 hidden
walk_stmt var source body = refl

pub tuple_value : (parts : List SourceValue) (at : ℕ) → source_value_of (val.Tuple parts at) ≡ values.Tuple (source_value_list parts) at
tuple_value parts at = let row = values_in (val.Tuple parts at) in ap (λ z. values.Tuple z at) (values_row row.0 row.1 ∙ ap source_value_list (items_hidden-the_row-SourceValue-0 parts))

pub branch_value : (number at : ℕ) (inner : SourceValue) → source_value_of (val.Branch number at inner) ≡ values.Branch number at (source_value_of inner)
unfolding Rattle.luo_source.specs.declared.values.SourceValue.TheBlock.hidden-the_row-SourceValue-1 hidden
branch_value number at inner = refl

pub case_value : (var : Name) (arms : List SourceValueArm) → source_value_of (val.Case var arms) ≡ values.Case var (source_value_arm_list arms)
case_value var arms = let row = value_arms_in (val.Case var arms) in ap (values.Case var) (value_arms_row row.0 row.1 ∙ ap source_value_arm_list (items_hidden-the_row-SourceValueArm-2 arms))

mutual
  -- what the code holds of a type expression is seen as it
  pub held-shown : (e : types.TypeExpr) → expr_of (held_expr e) ≡ e
  held-shown (types.Named name) = refl
  held-shown (types.Epsilon at) = refl
  held-shown (types.Atom weight weight_at at) = refl
  held-shown (types.Union parts) = union_expr (held_exprs parts) ∙ ap types.Union (all_held-shown parts)
  held-shown (types.Product parts at) = product_expr (held_exprs parts) at ∙ ap (λ z. types.Product z at) (all_held-shown parts)
  held-shown (types.Coll kind part bound at) = coll_expr kind (held_expr part) bound at ∙ ap (λ z. types.Coll kind z bound at) (held-shown part)

  all_held-shown : (es : types.TypeExprs) → expr_list (held_exprs es) ≡ es
  all_held-shown types.no_exprs = refl
  all_held-shown (types.an_expr e rest) = ap (λ z. types.an_expr z (expr_list (held_exprs rest))) (held-shown e) ∙ ap (types.an_expr e) (all_held-shown rest)
