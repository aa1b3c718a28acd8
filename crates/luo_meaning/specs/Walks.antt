-- How many walks of a source go over multisets and powersets.
use Rattle.std.specs.Prelude.{◌≡◌, ℕ, ◌+◌, List, [], ◌∷◌, Option, Some}
use Rattle.luo_model.specs.declared.program.Kind.{Kind}
use Rattle.luo_source.specs.declared.types.Bound.{Bound}
use Rattle.luo_source.specs.Plain.Types.{TypeExpr, Coll}
use Rattle.luo_source.specs.Plain.Types as type
use Rattle.luo_source.specs.Plain.Statements.{Stmt, Block, Case, Forall, Stmts, no_stmts, a_stmt, SourceArms, no_source_arms, a_source_arm}
use Rattle.luo_source.specs.Plain.Source.{ProcBody, Statements, Value, ProcDef, Source}
use Rattle.luo_rules.specs.Counted.{multiset_of}
use Rattle.luo_meaning.specs.Types.{LeadsTo, Types, type_of, BindsTypes, AreStands}

-- a walk over e has components of f, and counts 1 where e leads to a multiset or a powerset, and
-- else 0
pub data IsWalkOver (source : Source) (e f : TypeExpr) : ℕ → Type 0 where
  walk_over : {kind : Kind} {bound : Option Bound} {at : ℕ}
      → LeadsTo source (Coll kind f bound at) e → IsWalkOver source e f (multiset_of kind)

module _ (source : Source) where
  abbrev mutual
    -- the walks in a statement, whose scope has variables of these types
    pub StmtWalks : Types → Stmt → ℕ → Type 0
    StmtWalks types (Block stmts) n = StmtsWalk types stmts n
    StmtWalks types (Case var arms) n =
        (e : TypeExpr) × (stands : List TypeExpr) × (type_of types var.text ≡ Some e)
        × AreStands source e stands × ArmsWalk stands arms n
    StmtWalks types (Forall var over body) n =
        (e : TypeExpr) × (f : TypeExpr) × (a : ℕ) × (b : ℕ) × (type_of types over.text ≡ Some e)
        × IsWalkOver source e f a × StmtWalks ((var.text, f) ∷ []) body b × (n ≡ a + b)
    StmtWalks types _ n = n ≡ 0

    pub StmtsWalk : Types → Stmts → ℕ → Type 0
    StmtsWalk types no_stmts n = n ≡ 0
    StmtsWalk types (a_stmt stmt rest) n =
        (a : ℕ) × (b : ℕ) × StmtWalks types stmt a × StmtsWalk types rest b × (n ≡ a + b)

    pub ArmsWalk : List TypeExpr → SourceArms → ℕ → Type 0
    ArmsWalk stands no_source_arms n = n ≡ 0
    ArmsWalk [] (a_source_arm pattern body rest) n = ⊥
    ArmsWalk (e ∷ stands) (a_source_arm pattern body rest) n =
        (types : Types) × (a : ℕ) × (b : ℕ) × BindsTypes source pattern e types
        × StmtWalks types body a × ArmsWalk stands rest b × (n ≡ a + b)

  -- values have no walks
  abbrev pub BodyWalks : Types → ProcBody → ℕ → Type 0
  BodyWalks types (Statements stmts) n = StmtsWalk types stmts n
  BodyWalks types (Value colon result v) n = n ≡ 0

  -- the walks in procedures
  abbrev pub ProcsWalk : List ProcDef → ℕ → Type 0
  ProcsWalk [] n = n ≡ 0
  ProcsWalk (p ∷ ps) n =
      (a : ℕ) × (b : ℕ) × BodyWalks ((p.param.text, type.Named p.on) ∷ []) p.body a × ProcsWalk ps b
      × (n ≡ a + b)
