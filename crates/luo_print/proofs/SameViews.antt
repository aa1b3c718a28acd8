-- Constructs of the code whose parts are the same but for places.
use Rattle.std.proofs.Common.{◌≡◌, ℕ, List, sym, subst, Option}
use Rattle.luo_model.specs.declared.program.Kind.{Kind}
use Rattle.luo_source.specs.declared.names.Name.{Name}
use Rattle.luo_source.specs.declared.types.Bound.{Bound}
use Rattle.luo_source.specs.declared.types.TypeExpr as expr
use Rattle.luo_source.specs.declared.types.TypeExpr.{TypeExpr}
use Rattle.luo_source.specs.declared.statements.SourceArm.{SourceArm}
use Rattle.luo_source.specs.declared.statements.Stmt as stmt
use Rattle.luo_source.specs.declared.statements.Stmt.{Stmt}
use Rattle.luo_source.specs.declared.values.SourceValueArm.{SourceValueArm}
use Rattle.luo_source.specs.declared.values.SourceValue as value
use Rattle.luo_source.specs.declared.values.SourceValue.{SourceValue}
use Rattle.luo_source.specs.View.{expr_of, expr_list, stmt_of, stmt_list, source_arm_list, source_value_of, source_value_list, source_value_arm_list}
use Rattle.luo_source.proofs.ViewLemmas.{union_expr, product_expr, coll_expr, block_stmt, case_stmt, walk_stmt, tuple_value, branch_value, case_value}
use Rattle.luo_print.specs.Same.{SameName, SameBound, SameExpr, SameExprs, same_union, same_product, same_collection, SameStmt, SameStmts, SameArms, same_block, same_case, same_forall, SameValue, SameValues, SameValueArms, same_tuple, same_branch, same_chosen}

views : {A : Type 0} (R : A → A → Type 0) {a b c d : A} → a ≡ c → b ≡ d → R c d → R a b
views R {b = b} {c = c} e g r = subst (λ x. R x b) (sym e) (subst (λ y. R c y) (sym g) r)

pub unions : (ts us : List TypeExpr) → SameExprs (expr_list ts) (expr_list us) → SameExpr (expr_of (expr.Union ts)) (expr_of (expr.Union us))
unions ts us s = views SameExpr (union_expr ts) (union_expr us) (same_union s)

pub products : (ts us : List TypeExpr) (k l : ℕ) → SameExprs (expr_list ts) (expr_list us) → SameExpr (expr_of (expr.Product ts k)) (expr_of (expr.Product us l))
products ts us k l s = views SameExpr (product_expr ts k) (product_expr us l) (same_product s)

pub collections : (kind : Kind) (t u : TypeExpr) (b c : Option Bound) (k l : ℕ) → SameExpr (expr_of t) (expr_of u) → SameBound b c → SameExpr (expr_of (expr.Coll kind t b k)) (expr_of (expr.Coll kind u c l))
collections kind t u b c k l s e = views SameExpr (coll_expr kind t b k) (coll_expr kind u c l) (same_collection s e)

pub blocks : (ss ts : List Stmt) → SameStmts (stmt_list ss) (stmt_list ts) → SameStmt (stmt_of (stmt.Block ss)) (stmt_of (stmt.Block ts))
blocks ss ts s = views SameStmt (block_stmt ss) (block_stmt ts) (same_block s)

pub cases : (x y : Name) (arms others : List SourceArm) → SameName x y → SameArms (source_arm_list arms) (source_arm_list others) → SameStmt (stmt_of (stmt.Case x arms)) (stmt_of (stmt.Case y others))
cases x y arms others e s = views SameStmt (case_stmt x arms) (case_stmt y others) (same_case e s)

pub walks : (x y c d : Name) (s t : Stmt) → SameName x y → SameName c d → SameStmt (stmt_of s) (stmt_of t) → SameStmt (stmt_of (stmt.Forall x c s)) (stmt_of (stmt.Forall y d t))
walks x y c d s t e h r = views SameStmt (walk_stmt x c s) (walk_stmt y d t) (same_forall e h r)

pub tuples : (vs ws : List SourceValue) (k l : ℕ) → SameValues (source_value_list vs) (source_value_list ws) → SameValue (source_value_of (value.Tuple vs k)) (source_value_of (value.Tuple ws l))
tuples vs ws k l s = views SameValue (tuple_value vs k) (tuple_value ws l) (same_tuple s)

pub branches : (number k l : ℕ) (v w : SourceValue) → SameValue (source_value_of v) (source_value_of w) → SameValue (source_value_of (value.Branch number k v)) (source_value_of (value.Branch number l w))
branches number k l v w s = views SameValue (branch_value number k v) (branch_value number l w) (same_branch s)

pub chosen : (x y : Name) (arms others : List SourceValueArm) → SameName x y → SameValueArms (source_value_arm_list arms) (source_value_arm_list others) → SameValue (source_value_of (value.Case x arms)) (source_value_of (value.Case y others))
chosen x y arms others e s = views SameValue (case_value x arms) (case_value y others) (same_chosen e s)
