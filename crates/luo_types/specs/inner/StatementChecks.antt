-- What the checks of statements and arms answer.
use Rattle.std.specs.Prelude.{◌≡◌, ℕ, ◌+◌, List, Result}
use Rattle.luo_model.specs.declared.body.Arm.{Arm}
use Rattle.luo_model.specs.declared.body.Body.{Body}
use Rattle.luo_model.specs.declared.program.Part.{Part}
use Rattle.luo_model.specs.Scopes.Stands.{Stand, stands}
use Rattle.luo_source.specs.declared.names.Name.{Name}
use Rattle.luo_source.specs.declared.statements.Stmt.{Stmt}
use Rattle.luo_source.specs.declared.statements.SourceArm.{SourceArm}
use Rattle.luo_source.specs.View.{stmt_of, stmt_list, source_arm_list}
use Rattle.luo_rules.specs.declared.rule.Stop.{Stop}
use Rattle.luo_rules.specs.declared.setting.Setting.{Setting}
use Rattle.luo_rules.specs.declared.setting.Variable.{Variable}
use Rattle.luo_rules.specs.Meanings.{measure_use, value_of}
use Rattle.luo_rules.specs.Settings.{meant, shape_at}
use Rattle.luo_rules.specs.StatementBreaches.{stmt_breaches, stmts_breaches, arms_breaches}
use Rattle.luo_rules.specs.inner.StatementLists.{one_arm_breaches}
use Rattle.luo_value_types.specs.Checks.{Checks}
use Rattle.luo_value_types.specs.declared.context.Maker.{Maker}
use Rattle.luo_types.specs.inner.StatementsMade.{IsStmtAdded, AreStmtsAdded, IsArmMade, AreArmsMade}

-- the check of a charge, whose value the body charges as well
abbrev pub ChecksCharge : Setting → Name → Result Unit Stop → Body → Body → Type 0
ChecksCharge s measure result old new =
    let own = old.own + value_of (meant s measure) in
    Checks (measure_use (meant s measure) measure) result
    (λ u. new ≡ record { own = own; items = old.items })

-- the check of a statement, and of statements: what they do goes after what the maker had
abbrev pub ChecksStmt : Setting → List Variable → Stmt
    → Result Unit Stop → Maker → Maker → Type 0
ChecksStmt s scope stmt result old new =
    Checks (stmt_breaches s scope (stmt_of stmt)) result
    (λ u. IsStmtAdded s scope stmt old.body new.body old.next new.next)

abbrev pub ChecksStmts : Setting → List Variable → List Stmt
    → Result Unit Stop → Maker → Maker → Type 0
ChecksStmts s scope stmts result old new =
    Checks (stmts_breaches s scope (stmt_list stmts)) result
    (λ u. AreStmtsAdded s scope stmts old.body new.body old.next new.next)

-- the check of an arm that stands for this, and of the arms of a case on this part
abbrev pub ChecksArm : Setting → Stand → Name → SourceArm
    → Result Arm Stop → ℕ → ℕ → Type 0
ChecksArm s stand var arm result first next =
    Checks (one_arm_breaches s stand var arm) result
    (λ made. IsArmMade s stand var arm made first next)

abbrev pub ChecksArms : Setting → Part → Name → List SourceArm
    → Result (List Arm) Stop → ℕ → ℕ → Type 0
ChecksArms s on var arms result first next =
    let all = stands on (shape_at s on.node) in
    Checks (arms_breaches s all var (source_arm_list arms)) result
    (λ made. AreArmsMade s all var arms made first next)
