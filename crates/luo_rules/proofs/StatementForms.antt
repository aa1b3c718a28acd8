-- Statements of the code whose parts and arms are in a list or a box.
use Rattle.std.proofs.Common.{◌≡◌, ℕ, suc, ◌+◌, List, [], ◌∷◌, length, refl, ap, ◌∙◌}
use Rattle.luo_model.specs.Program as plain
use Rattle.luo_source.specs.declared.names.Name.{Name}
use Rattle.luo_source.specs.declared.statements.SourceArm.{SourceArm}
use Rattle.luo_source.specs.declared.statements.Stmt.{Stmt, Block, Case, Forall}
use Rattle.luo_source.specs.View.{stmt_of, stmt_list, source_arm_list}
use Rattle.luo_source.proofs.ViewLemmas.{block_stmt, case_stmt, walk_stmt}
use Rattle.luo_rules.specs.declared.setting.Setting.{Setting}
use Rattle.luo_rules.specs.declared.setting.Variable.{Variable}
use Rattle.luo_rules.specs.Patterns.{case_breaches}
use Rattle.luo_rules.specs.Settings.{found, case_stands}
use Rattle.luo_rules.specs.Counted.{stmt_statements, stmts_statements, arms_statements}
use Rattle.luo_rules.specs.StatementBreaches.{walked, walk_breaches, count_arms, stmt_breaches, stmts_breaches, arms_breaches}
use Rattle.luo_rules.specs.StatementCore.{stmt_sites, stmts_sites, arms_sites, variable, arms_core}
use Rattle.luo_rules.specs.inner.StatementLists.{stmt_does, stmts_does}

pub arms_counted : (arms : List SourceArm) → count_arms (source_arm_list arms) ≡ length arms
arms_counted [] = refl
arms_counted (a ∷ arms) = ap suc (arms_counted arms)

-- the scope of a walk's body
abbrev pub walk_scope : Setting → List Variable → Name → Name → List Variable
walk_scope s scope var source = record { name = var.text; part = walked s (found scope source) } ∷ []

module _ (s : Setting) (scope : List Variable) where
  pub block-breaches : (stmts : List Stmt) → stmt_breaches s scope (stmt_of (Block stmts)) ≡ stmts_breaches s scope (stmt_list stmts)
  block-breaches stmts = ap (stmt_breaches s scope) (block_stmt stmts)

  pub block-does : (first : ℕ) (stmts : List Stmt) → stmt_does s scope first (stmt_of (Block stmts)) ≡ stmts_does s scope first (stmt_list stmts)
  block-does first stmts = ap (stmt_does s scope first) (block_stmt stmts)

  pub case-breaches : (var : Name) (arms : List SourceArm)
      → stmt_breaches s scope (stmt_of (Case var arms)) ≡ case_breaches s (found scope var) var (length arms) (arms_breaches s (case_stands s (found scope var)) var (source_arm_list arms))
  case-breaches var arms =
      ap (stmt_breaches s scope) (case_stmt var arms)
      ∙ ap (λ z. case_breaches s (found scope var) var z (arms_breaches s (case_stands s (found scope var)) var (source_arm_list arms))) (arms_counted arms)

  pub case-does : (first : ℕ) (var : Name) (arms : List SourceArm) → stmt_does s scope first (stmt_of (Case var arms))
      ≡ plain.Does 0 (plain.item (plain.Case (variable scope var) (arms_core s (case_stands s (found scope var)) first (source_arm_list arms)) (first + arms_sites (source_arm_list arms))) plain.no_items)
  case-does first var arms = ap (stmt_does s scope first) (case_stmt var arms)

  pub walk-breaches : (var source : Name) (body : Stmt) → stmt_breaches s scope (stmt_of (Forall var source body))
      ≡ walk_breaches s (found scope source) source (stmt_breaches s (walk_scope s scope var source) (stmt_of body))
  walk-breaches var source body = ap (stmt_breaches s scope) (walk_stmt var source body)

  pub walk-does : (first : ℕ) (var source : Name) (body : Stmt) → stmt_does s scope first (stmt_of (Forall var source body))
      ≡ plain.Does 0 (plain.item (plain.Forall (variable scope source) (stmt_does s (walk_scope s scope var source) first (stmt_of body)) (first + stmt_sites (stmt_of body)) (first + stmt_sites (stmt_of body) + 1)) plain.no_items)
  walk-does first var source body = ap (stmt_does s scope first) (walk_stmt var source body)

pub block-sites : (stmts : List Stmt) → stmt_sites (stmt_of (Block stmts)) ≡ stmts_sites (stmt_list stmts)
block-sites stmts = ap stmt_sites (block_stmt stmts)

pub block-statements : (stmts : List Stmt) → stmt_statements (stmt_of (Block stmts)) ≡ stmts_statements (stmt_list stmts)
block-statements stmts = ap stmt_statements (block_stmt stmts)

pub case-sites : (var : Name) (arms : List SourceArm) → stmt_sites (stmt_of (Case var arms)) ≡ arms_sites (source_arm_list arms) + 1
case-sites var arms = ap stmt_sites (case_stmt var arms)

pub case-statements : (var : Name) (arms : List SourceArm) → stmt_statements (stmt_of (Case var arms)) ≡ suc (arms_statements (source_arm_list arms))
case-statements var arms = ap stmt_statements (case_stmt var arms)

pub walk-sites : (var source : Name) (body : Stmt) → stmt_sites (stmt_of (Forall var source body)) ≡ stmt_sites (stmt_of body) + 2
walk-sites var source body = ap stmt_sites (walk_stmt var source body)

pub walk-statements : (var source : Name) (body : Stmt) → stmt_statements (stmt_of (Forall var source body)) ≡ suc (stmt_statements (stmt_of body))
walk-statements var source body = ap stmt_statements (walk_stmt var source body)
