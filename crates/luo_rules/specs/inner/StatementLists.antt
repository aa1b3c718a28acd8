-- What statements and their arms do, with sites from a number on.
use Rattle.std.specs.Prelude.{ℕ, List}
use Rattle.luo_model.specs.Program as plain
use Rattle.luo_model.specs.Scopes.Stands.{Stand}
use Rattle.luo_source.specs.declared.names.Name.{Name}
use Rattle.luo_source.specs.declared.statements.SourceArm.{SourceArm}
use Rattle.luo_source.specs.Plain.Statements.{Stmt, Stmts}
use Rattle.luo_source.specs.View.{stmt_of}
use Rattle.luo_rules.specs.declared.rule.Breach.{Breach}
use Rattle.luo_rules.specs.declared.setting.Setting.{Setting}
use Rattle.luo_rules.specs.declared.setting.Variable.{Variable}
use Rattle.luo_rules.specs.Patterns.{bound, arm_breaches}
use Rattle.luo_rules.specs.Counted.{stmt_statements}
use Rattle.luo_rules.specs.StatementBreaches.{stmt_breaches}
use Rattle.luo_rules.specs.StatementCore.{stmt_own, stmts_own, stmt_sites, stmt_items, stmts_items}

-- what a statement does, with sites from this number on
abbrev pub stmt_does : Setting → List Variable → ℕ → Stmt → plain.Body
stmt_does s scope first stmt = plain.Does (stmt_own s stmt) (stmt_items s scope first stmt)

abbrev pub stmts_does : Setting → List Variable → ℕ → Stmts → plain.Body
stmts_does s scope first stmts = plain.Does (stmts_own s stmts) (stmts_items s scope first stmts)

-- the breaches of an arm that stands for this, in a case on this variable
abbrev pub one_arm_breaches : Setting → Stand → Name → SourceArm → List Breach
one_arm_breaches s stand var arm =
    arm_breaches s stand var arm.pattern
    (stmt_breaches s (bound s stand arm.pattern) (stmt_of arm.body))

abbrev pub arm_sites : SourceArm → ℕ
arm_sites arm = stmt_sites (stmt_of arm.body)

abbrev pub arm_statements : SourceArm → ℕ
arm_statements arm = stmt_statements (stmt_of arm.body)
