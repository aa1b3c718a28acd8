-- The sites of a source in their order: each call, case and walk, the body of each walk, and each
-- procedure's whole. What is inside a site comes before it.
use Rattle.std.specs.Prelude.{◌≡◌, ◌⊎◌, ℕ, ◌+◌, List, [], ◌∷◌, Some}
use Rattle.luo_model.specs.Tree.{Tree, Trees, Coll}
use Rattle.luo_model.specs.Charges.{EachCharges}
use Rattle.luo_source.specs.Plain.Types.{TypeExpr}
use Rattle.luo_source.specs.Plain.Types as type
use Rattle.luo_source.specs.Plain.Statements.{Stmt, Call, Block, Case, Forall, Stmts, no_stmts, a_stmt, SourceArms, a_source_arm}
use Rattle.luo_source.specs.Plain.Values as value
use Rattle.luo_source.specs.Plain.Values.{SourceValue, Made, Tuple, Branch, SourceValues, no_source_values, a_source_value, SourceValueArms, no_source_value_arms, a_source_value_arm}
use Rattle.luo_source.specs.Plain.Source.{ProcBody, Statements, Value, ProcDef, Source}
use Rattle.luo_rules.specs.StatementCore.{stmt_sites, stmts_sites, arms_sites}
use Rattle.luo_meaning.specs.Charges.{StmtCharges, ArmsCharge, ValueArmsCharge, ProcCharges}
use Rattle.luo_meaning.specs.Levels.{CallLevel, StmtLevel, BodyLevel, ProcLevel}
use Rattle.luo_meaning.specs.Types.{Types, type_of, IsCollectionOf, BindsTypes, AreStands}

abbrev mutual
  -- the number of sites in a value: one for each call and case, as in statements
  pub value_sites : SourceValue → ℕ
  value_sites (Made callee arg) = 1
  value_sites (Tuple parts at) = parts_sites parts
  value_sites (Branch number at inner) = value_sites inner
  value_sites (value.Case var arms) = value_arms_sites arms + 1
  value_sites _ = 0

  pub parts_sites : SourceValues → ℕ
  parts_sites no_source_values = 0
  parts_sites (a_source_value v rest) = value_sites v + parts_sites rest

  pub value_arms_sites : SourceValueArms → ℕ
  value_arms_sites no_source_value_arms = 0
  value_arms_sites (a_source_value_arm pattern v rest) = value_sites v + value_arms_sites rest

-- the number of sites in a body
abbrev pub sites_in : ProcBody → ℕ
sites_in (Statements stmts) = stmts_sites stmts
sites_in (Value colon result v) = value_sites v

-- P speaks of a site: its number, the type of its variable, what is charged there on each structure
-- of it, and its level
module _ (source : Source) (P : ℕ → TypeExpr → (Tree → ℕ → Type 0) → (ℕ → Type 0) → Type 0) where
  abbrev mutual
    -- P holds of a site in the statement, whose scope has variables of these types; its sites have
    -- numbers from the first on
    pub SomeSite : Types → ℕ → Stmt → Type 0
    SomeSite types first (Call callee arg) =
        (e : TypeExpr) × (type_of types arg.text ≡ Some e)
        × P first e (ProcCharges source callee.text) (CallLevel (ProcLevel source) callee.text)
    SomeSite types first (Block stmts) = SomeSites types first stmts
    SomeSite types first (Case var arms) =
        (e : TypeExpr) × (stands : List TypeExpr) × (type_of types var.text ≡ Some e)
        × AreStands source e stands
        × (P (first + arms_sites arms) e (ArmsCharge source (ProcCharges source) arms) (λ n. n ≡ 0)
        ⊎ SomeArm stands first arms)
    SomeSite types first (Forall var over body) =
        (e : TypeExpr) × (f : TypeExpr) × (type_of types over.text ≡ Some e)
        × IsCollectionOf source e f
        × (P (first + stmt_sites body + 1) e
        (λ t q. (ts : Trees) × (t ≡ Coll ts)
        × EachCharges (λ u. StmtCharges source (ProcCharges source) ((var.text, u) ∷ []) body) ts q)
        (λ n. n ≡ 0)
        ⊎ P (first + stmt_sites body) f
        (λ u q. StmtCharges source (ProcCharges source) ((var.text, u) ∷ []) body q)
        (StmtLevel (ProcLevel source) body)
        ⊎ SomeSite ((var.text, f) ∷ []) first body)
    SomeSite types first _ = ⊥

    pub SomeSites : Types → ℕ → Stmts → Type 0
    SomeSites types first no_stmts = ⊥
    SomeSites types first (a_stmt stmt rest) =
        SomeSite types first stmt ⊎ SomeSites types (first + stmt_sites stmt) rest

    -- P holds of a site in an arm, where the arms look at structures of these
    pub SomeArm : List TypeExpr → ℕ → SourceArms → Type 0
    SomeArm (e ∷ stands) first (a_source_arm pattern body rest) =
        ((types : Types) × BindsTypes source pattern e types × SomeSite types first body)
        ⊎ SomeArm stands (first + stmt_sites body) rest
    SomeArm _ first _ = ⊥

  abbrev mutual
    -- P holds of a site in the value
    pub SomeValueSite : Types → ℕ → SourceValue → Type 0
    SomeValueSite types first (Made callee arg) =
        (e : TypeExpr) × (type_of types arg.text ≡ Some e)
        × P first e (ProcCharges source callee.text) (CallLevel (ProcLevel source) callee.text)
    SomeValueSite types first (Tuple parts at) = SomePartSite types first parts
    SomeValueSite types first (Branch number at inner) = SomeValueSite types first inner
    SomeValueSite types first (value.Case var arms) =
        (e : TypeExpr) × (stands : List TypeExpr) × (type_of types var.text ≡ Some e)
        × AreStands source e stands
        × (P (first + value_arms_sites arms) e (ValueArmsCharge source (ProcCharges source) arms)
        (λ n. n ≡ 0) ⊎ SomeValueArm stands first arms)
    SomeValueSite types first _ = ⊥

    pub SomePartSite : Types → ℕ → SourceValues → Type 0
    SomePartSite types first no_source_values = ⊥
    SomePartSite types first (a_source_value v rest) =
        SomeValueSite types first v ⊎ SomePartSite types (first + value_sites v) rest

    pub SomeValueArm : List TypeExpr → ℕ → SourceValueArms → Type 0
    SomeValueArm (e ∷ stands) first (a_source_value_arm pattern v rest) =
        ((types : Types) × BindsTypes source pattern e types × SomeValueSite types first v)
        ⊎ SomeValueArm stands (first + value_sites v) rest
    SomeValueArm _ first _ = ⊥

  abbrev pub SomeBodySite : Types → ℕ → ProcBody → Type 0
  SomeBodySite types first (Statements stmts) = SomeSites types first stmts
  SomeBodySite types first (Value colon result v) = SomeValueSite types first v

  -- P holds of a site of these procedures: the whole of one, on its parameter, or one in its body
  abbrev pub SomeProcSite : ℕ → List ProcDef → Type 0
  SomeProcSite first [] = ⊥
  SomeProcSite first (p ∷ ps) =
      P (first + sites_in p.body) (type.Named p.on) (ProcCharges source p.name.text)
      (BodyLevel (ProcLevel source) p.body)
      ⊎ SomeBodySite ((p.param.text, type.Named p.on) ∷ []) first p.body
      ⊎ SomeProcSite (first + sites_in p.body + 1) ps

  -- P holds of a site of the source
  abbrev pub SomeSiteOf : Type 0
  SomeSiteOf = SomeProcSite 0 source.procs
