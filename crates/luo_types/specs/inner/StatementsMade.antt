-- What checking statements and arms gives.
use Rattle.std.specs.Prelude.{◌≡◌, ℕ, ◌+◌, List, [], Option}
use Rattle.luo_model.specs.declared.body.Arm.{Arm}
use Rattle.luo_model.specs.declared.body.Body.{Body}
use Rattle.luo_model.specs.Program as plain
use Rattle.luo_model.specs.declared.program.Part.{Part}
use Rattle.luo_model.specs.Scopes.Stands.{Stand}
use Rattle.luo_model.specs.View.{body_of}
use Rattle.luo_source.specs.declared.names.Name.{Name}
use Rattle.luo_source.specs.declared.statements.Stmt.{Stmt}
use Rattle.luo_source.specs.declared.statements.SourceArm.{SourceArm}
use Rattle.luo_source.specs.View.{stmt_of, stmt_list, source_arm_list}
use Rattle.luo_rules.specs.declared.rule.Breach.{Breach}
use Rattle.luo_rules.specs.declared.setting.Setting.{Setting}
use Rattle.luo_rules.specs.declared.setting.Variable.{Variable}
use Rattle.luo_rules.specs.Patterns.{bind_of, bound}
use Rattle.luo_rules.specs.Settings.{place_of}
use Rattle.luo_model.specs.Lists.{arm_list}
use Rattle.luo_rules.specs.inner.ValueMade.{extended}
use Rattle.luo_rules.specs.StatementBreaches.{walked, walk_breaches, stmt_breaches, stmts_breaches, arms_breaches}
use Rattle.luo_rules.specs.StatementCore.{stmt_sites, stmts_sites, arms_sites, arms_core}
use Rattle.luo_rules.specs.inner.StatementLists.{stmt_does, stmts_does, one_arm_breaches, arm_sites}

-- nothing is broken; what is done comes after the old body; and so many sites are the next ones
pub record IsAdded (breaches : List Breach) (does : plain.Body) (sites : ℕ) (old new : Body)
    (first next : ℕ) : Type 0 where
  pub unbroken : breaches ≡ []
  pub behind : body_of new ≡ extended (body_of old) does
  pub numbered : next ≡ first + sites

-- a statement was checked and added
abbrev pub IsStmtAdded : Setting → List Variable → Stmt → Body → Body → ℕ → ℕ → Type 0
IsStmtAdded s scope stmt old new first next =
    IsAdded (stmt_breaches s scope (stmt_of stmt)) (stmt_does s scope first (stmt_of stmt))
    (stmt_sites (stmt_of stmt)) old new first next

-- statements were checked and added, one after the other
abbrev pub AreStmtsAdded : Setting → List Variable → List Stmt → Body → Body → ℕ → ℕ → Type 0
AreStmtsAdded s scope stmts old new first next =
    IsAdded (stmts_breaches s scope (stmt_list stmts)) (stmts_does s scope first (stmt_list stmts))
    (stmts_sites (stmt_list stmts)) old new first next

-- an arm was checked and made
pub record IsArmMade (s : Setting) (stand : Stand) (var : Name) (arm : SourceArm) (made : Arm)
    (first next : ℕ) : Type 0 where
  pub unbroken : one_arm_breaches s stand var arm ≡ []
  pub binds : made.bind ≡ bind_of arm.pattern
  pub does : body_of made.body ≡ stmt_does s (bound s stand arm.pattern) first (stmt_of arm.body)
  pub numbered : next ≡ first + arm_sites arm

-- arms were checked and made
pub record AreArmsMade (s : Setting) (stands : List Stand) (var : Name) (arms : List SourceArm)
    (made : List Arm) (first next : ℕ) : Type 0 where
  pub unbroken : arms_breaches s stands var (source_arm_list arms) ≡ []
  pub formed : arm_list made ≡ arms_core s stands first (source_arm_list arms)
  pub numbered : next ≡ first + arms_sites (source_arm_list arms)

-- a walk may go over a variable: its place, and the part of its components
pub record IsWalked (s : Setting) (there : Option (ℕ × Part)) (source : Name)
    (walk : ℕ × Part) : Type 0 where
  pub place : walk.0 ≡ place_of there
  pub part : walk.1 ≡ walked s there
  pub into : (inner : List Breach) → walk_breaches s there source inner ≡ inner
