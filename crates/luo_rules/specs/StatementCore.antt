-- The core form of statements.
use Rattle.std.specs.Prelude.{ℕ, ◌+◌, List, [], ◌∷◌}
use Rattle.luo_model.specs.Program as plain
use Rattle.luo_model.specs.Scopes.Stands.{Stand}
use Rattle.luo_model.specs.Scopes.ValueBodies.{join_items}
use Rattle.luo_source.specs.declared.names.Name.{Name}
use Rattle.luo_source.specs.Plain.Statements.{Stmt, Charge, Call, Block, Case, Forall, Stmts, no_stmts, a_stmt, SourceArms, no_source_arms, a_source_arm}
use Rattle.luo_rules.specs.declared.setting.Setting.{Setting}
use Rattle.luo_rules.specs.declared.setting.Variable.{Variable}
use Rattle.luo_rules.specs.Meanings.{value_of, procedure_of}
use Rattle.luo_rules.specs.Settings.{meant, found, place_of, case_stands}
use Rattle.luo_rules.specs.Patterns.{bound, bind_of}
use Rattle.luo_rules.specs.StatementBreaches.{walked}

abbrev mutual
  -- what a statement charges in its own scope, blocks opened up
  pub stmt_own : Setting → Stmt → ℕ
  stmt_own s (Charge measure) = value_of (meant s measure)
  stmt_own s (Block stmts) = stmts_own s stmts
  stmt_own s _ = 0

  pub stmts_own : Setting → Stmts → ℕ
  stmts_own s no_stmts = 0
  stmts_own s (a_stmt stmt rest) = stmt_own s stmt + stmts_own s rest

abbrev mutual
  -- the number of sites: one for each call and case, two for each walk
  pub stmt_sites : Stmt → ℕ
  stmt_sites (Call callee arg) = 1
  stmt_sites (Block stmts) = stmts_sites stmts
  stmt_sites (Case var arms) = arms_sites arms + 1
  stmt_sites (Forall var source body) = stmt_sites body + 2
  stmt_sites _ = 0

  pub stmts_sites : Stmts → ℕ
  stmts_sites no_stmts = 0
  stmts_sites (a_stmt stmt rest) = stmt_sites stmt + stmts_sites rest

  pub arms_sites : SourceArms → ℕ
  arms_sites no_source_arms = 0
  arms_sites (a_source_arm pattern body rest) = stmt_sites body + arms_sites rest

-- a scope's variable of this name, by its place
abbrev pub variable : List Variable → Name → ℕ
variable scope name = place_of (found scope name)

abbrev mutual
  -- the calls, cases and walks of a statement in a scope, blocks opened up, with sites from this
  -- number on: each after all that stands inside it
  pub stmt_items : Setting → List Variable → ℕ → Stmt → plain.Items
  stmt_items s scope first (Call callee arg) =
      plain.item (plain.Call (variable scope arg)
      (procedure_of (meant s callee)) first) plain.no_items
  stmt_items s scope first (Block stmts) = stmts_items s scope first stmts
  stmt_items s scope first (Case var arms) =
      plain.item (plain.Case (variable scope var)
      (arms_core s (case_stands s (found scope var)) first arms)
      (first + arms_sites arms)) plain.no_items
  stmt_items s scope first (Forall var source body) =
      plain.item (plain.Forall (variable scope source)
      (plain.Does (stmt_own s body)
      (stmt_items s
      (record { name = var.text; part = walked s (found scope source) } ∷ []) first body))
      (first + stmt_sites body) (first + stmt_sites body + 1)) plain.no_items
  stmt_items s scope first _ = plain.no_items

  pub stmts_items : Setting → List Variable → ℕ → Stmts → plain.Items
  stmts_items s scope first no_stmts = plain.no_items
  stmts_items s scope first (a_stmt stmt rest) =
      join_items (stmt_items s scope first stmt)
      (stmts_items s scope (first + stmt_sites stmt) rest)

  -- arms that stand for these
  pub arms_core : Setting → List Stand → ℕ → SourceArms → plain.Arms
  arms_core s stands first no_source_arms = plain.no_arms
  arms_core s [] first (a_source_arm pattern body rest) = plain.no_arms
  arms_core s (stand ∷ stands) first (a_source_arm pattern body rest) =
      plain.arm (bind_of pattern)
      (plain.Does (stmt_own s body) (stmt_items s (bound s stand pattern) first body))
      (arms_core s stands (first + stmt_sites body) rest)
