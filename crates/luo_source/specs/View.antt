-- The source of the code as plain data.
use Rattle.std.specs.Prelude.{List, [], ◌∷◌, map}
use Rattle.luo_source.specs.declared.types.TypeExpr.{TypeExpr, Named, Epsilon, Atom, Union, Union', Product, Product', Coll, Coll', Row_of-TypeExpr, end_of-TypeExpr, more_of-TypeExpr}
use Rattle.luo_source.specs.declared.types.TypeDef.{TypeDef}
use Rattle.luo_source.specs.declared.statements.Stmt.{Stmt, Skip, Charge, Call, Block', Case', Forall', Row_of-Stmt, end_of-Stmt, more_of-Stmt, Row_of-SourceArm, end_of-SourceArm, more_of-SourceArm}
use Rattle.luo_source.specs.declared.statements.SourceArm.{SourceArm}
use Rattle.luo_source.specs.declared.values.SourceValue.{SourceValue, Row_of-SourceValue, end_of-SourceValue, more_of-SourceValue, Row_of-SourceValueArm, end_of-SourceValueArm, more_of-SourceValueArm}
use Rattle.luo_source.specs.declared.values.SourceValue as made
use Rattle.luo_source.specs.declared.values.SourceValueArm.{SourceValueArm}
use Rattle.luo_source.specs.declared.source.ProcBody.{ProcBody}
use Rattle.luo_source.specs.declared.source.ProcBody.TheVariants as does
use Rattle.luo_source.specs.declared.source.ProcDef.{ProcDef}
use Rattle.luo_source.specs.declared.source.Source.{Source}
use Rattle.luo_source.specs.Plain.Types as types
use Rattle.luo_source.specs.Plain.Statements as statements
use Rattle.luo_source.specs.Plain.Values as values
use Rattle.luo_source.specs.Plain.Source as plain

abbrev mutual
  pub expr_of : TypeExpr → types.TypeExpr
  expr_of (Named name) = types.Named name
  expr_of (Epsilon at) = types.Epsilon at
  expr_of (Atom weight weight_at at) = types.Atom weight weight_at at
  expr_of (Union' size parts) = types.Union (exprs_of parts)
  expr_of (Product' size parts at) = types.Product (exprs_of parts) at
  expr_of (Coll' kind size part bound at) = types.Coll kind (first_expr part) bound at

  pub exprs_of : {n : _} → Row_of-TypeExpr n → types.TypeExprs
  exprs_of end_of-TypeExpr = types.no_exprs
  exprs_of (more_of-TypeExpr e rest) = types.an_expr (expr_of e) (exprs_of rest)

  -- the one type expression of a box
  pub first_expr : {n : _} → Row_of-TypeExpr n → types.TypeExpr
  first_expr end_of-TypeExpr = types.Union types.no_exprs
  first_expr (more_of-TypeExpr e rest) = expr_of e

abbrev mutual
  pub stmt_of : Stmt → statements.Stmt
  stmt_of Skip = statements.Skip
  stmt_of (Charge measure) = statements.Charge measure
  stmt_of (Call callee arg) = statements.Call callee arg
  stmt_of (Block' size stmts) = statements.Block (stmts_of stmts)
  stmt_of (Case' var size arms) = statements.Case var (source_arms_of arms)
  stmt_of (Forall' var source size body) = statements.Forall var source (first_stmt body)

  pub stmts_of : {n : _} → Row_of-Stmt n → statements.Stmts
  stmts_of end_of-Stmt = statements.no_stmts
  stmts_of (more_of-Stmt s rest) = statements.a_stmt (stmt_of s) (stmts_of rest)

  -- the one statement of a box
  pub first_stmt : {n : _} → Row_of-Stmt n → statements.Stmt
  first_stmt end_of-Stmt = statements.Skip
  first_stmt (more_of-Stmt s rest) = stmt_of s

  pub source_arms_of : {n : _} → Row_of-SourceArm n → statements.SourceArms
  source_arms_of end_of-SourceArm = statements.no_source_arms
  source_arms_of (more_of-SourceArm pattern body rest) =
      statements.a_source_arm pattern (stmt_of body) (source_arms_of rest)

abbrev mutual
  pub source_value_of : SourceValue → values.SourceValue
  source_value_of (made.Given name) = values.Given name
  source_value_of (made.Made callee arg) = values.Made callee arg
  source_value_of (made.Atom charge at) = values.Atom charge at
  source_value_of (made.Tuple' size parts at) = values.Tuple (source_values_of parts) at
  source_value_of (made.Branch' number at size inner) =
      values.Branch number at (first_source_value inner)
  source_value_of (made.Case' var size arms) = values.Case var (source_value_arms_of arms)

  pub source_values_of : {n : _} → Row_of-SourceValue n → values.SourceValues
  source_values_of end_of-SourceValue = values.no_source_values
  source_values_of (more_of-SourceValue v rest) =
      values.a_source_value (source_value_of v) (source_values_of rest)

  -- the one value of a box
  pub first_source_value : {n : _} → Row_of-SourceValue n → values.SourceValue
  first_source_value end_of-SourceValue = values.Tuple values.no_source_values 0
  first_source_value (more_of-SourceValue v rest) = source_value_of v

  pub source_value_arms_of : {n : _} → Row_of-SourceValueArm n → values.SourceValueArms
  source_value_arms_of end_of-SourceValueArm = values.no_source_value_arms
  source_value_arms_of (more_of-SourceValueArm pattern body rest) =
      values.a_source_value_arm pattern (source_value_of body) (source_value_arms_of rest)

abbrev mutual
  -- the type expression of the code that is seen so
  pub held_expr : types.TypeExpr → TypeExpr
  held_expr (types.Named name) = Named name
  held_expr (types.Epsilon at) = Epsilon at
  held_expr (types.Atom weight weight_at at) = Atom weight weight_at at
  held_expr (types.Union parts) = Union (held_exprs parts)
  held_expr (types.Product parts at) = Product (held_exprs parts) at
  held_expr (types.Coll kind part bound at) = Coll kind (held_expr part) bound at

  pub held_exprs : types.TypeExprs → List TypeExpr
  held_exprs types.no_exprs = []
  held_exprs (types.an_expr e rest) = held_expr e ∷ held_exprs rest

-- parts in lists
abbrev pub expr_list : List TypeExpr → types.TypeExprs
expr_list [] = types.no_exprs
expr_list (e ∷ es) = types.an_expr (expr_of e) (expr_list es)

abbrev pub stmt_list : List Stmt → statements.Stmts
stmt_list [] = statements.no_stmts
stmt_list (s ∷ ss) = statements.a_stmt (stmt_of s) (stmt_list ss)

abbrev pub source_arm_list : List SourceArm → statements.SourceArms
source_arm_list [] = statements.no_source_arms
source_arm_list (a ∷ arms) =
    statements.a_source_arm a.pattern (stmt_of a.body) (source_arm_list arms)

abbrev pub source_value_list : List SourceValue → values.SourceValues
source_value_list [] = values.no_source_values
source_value_list (v ∷ vs) = values.a_source_value (source_value_of v) (source_value_list vs)

abbrev pub source_value_arm_list : List SourceValueArm → values.SourceValueArms
source_value_arm_list [] = values.no_source_value_arms
source_value_arm_list (a ∷ arms) =
    values.a_source_value_arm a.pattern (source_value_of a.body) (source_value_arm_list arms)

abbrev pub type_def_of : TypeDef → types.TypeDef
type_def_of d = record { names = d.names; body = expr_of d.body }

abbrev pub proc_body_of : ProcBody → plain.ProcBody
proc_body_of (does.Statements stmts) = plain.Statements (stmt_list stmts)
proc_body_of (does.Value colon result v) = plain.Value colon result (source_value_of v)

abbrev pub proc_def_of : ProcDef → plain.ProcDef
proc_def_of p =
    record { name = p.name; param = p.param; on = p.on; body = proc_body_of p.body }

-- the source as plain data
abbrev pub plain_source : Source → plain.Source
plain_source s = record {
  universe = s.universe;
  types = map type_def_of s.types;
  measures = s.measures;
  procs = map proc_def_of s.procs;
  analyses = s.analyses;
}
