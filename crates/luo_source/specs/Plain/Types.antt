-- Type expressions as plain data.
use Rattle.std.specs.Prelude.{ℕ, List, Option}
use Rattle.luo_model.specs.declared.program.Kind.{Kind}
use Rattle.luo_source.specs.declared.names.Name.{Name}
use Rattle.luo_source.specs.declared.types.Bound.{Bound}

mutual
  -- a name, the empty structure, an atom, a union, a product or a collection; each construct with
  -- the token of its word, and an atom with that of its number
  pub data TypeExpr : Type 0 where
    Named : Name → TypeExpr
    Epsilon : (at : ℕ) → TypeExpr
    Atom : (weight weight_at at : ℕ) → TypeExpr
    Union : TypeExprs → TypeExpr
    Product : TypeExprs → (at : ℕ) → TypeExpr
    Coll : Kind → TypeExpr → Option Bound → (at : ℕ) → TypeExpr

  pub data TypeExprs : Type 0 where
    no_exprs : TypeExprs
    an_expr : TypeExpr → TypeExprs → TypeExprs

-- names that are defined to be one type
pub record TypeDef : Type 0 where
  pub names : List Name
  pub body : TypeExpr
