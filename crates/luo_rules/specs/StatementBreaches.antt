-- The breaches of statements, in text order.
use Rattle.std.specs.Prelude.{ℕ, suc, List, [], ◌∷◌, ◌++◌, Option, Some, None}
use Rattle.luo_model.specs.declared.program.Part.{Part}
use Rattle.luo_model.specs.declared.program.Shape.{Shape}
use Rattle.luo_model.specs.declared.program.Shape.TheVariants as shape
use Rattle.luo_model.specs.Scopes.Stands.{Stand, component, no_part}
use Rattle.luo_source.specs.declared.names.Name.{Name}
use Rattle.luo_source.specs.Plain.Statements.{Stmt, Skip, Charge, Call, Block, Case, Forall, Stmts, no_stmts, a_stmt, SourceArms, no_source_arms, a_source_arm}
use Rattle.luo_rules.specs.declared.rule.Breach.{Breach}
use Rattle.luo_rules.specs.declared.rule.Rule.TheVariants.{Y12, Y13}
use Rattle.luo_rules.specs.declared.setting.Setting.{Setting}
use Rattle.luo_rules.specs.declared.setting.Variable.{Variable}
use Rattle.luo_rules.specs.Breaches.{broken_at}
use Rattle.luo_rules.specs.Meanings.{measure_use, procedure_use}
use Rattle.luo_rules.specs.Settings.{meant, signature_meant, shape_at, found, argument_breaches, case_stands}
use Rattle.luo_rules.specs.Patterns.{bound, arm_breaches, case_breaches}

abbrev pub count_arms : SourceArms → ℕ
count_arms no_source_arms = 0
count_arms (a_source_arm pattern body rest) = suc (count_arms rest)

-- the part of what a walk over a variable binds
abbrev pub walked : Setting → Option (ℕ × Part) → Part
walked s None = no_part
walked s (Some variable) = component (shape_at s variable.1.node)

-- a walk over a variable of this construct: it is a collection, and then the breaches of the body
abbrev pub walk_into : Shape → Name → List Breach → List Breach
walk_into (shape.Coll kind part low high) source inner = inner
walk_into _ source inner = broken_at Y12 source

-- a walk over a variable: it is bound, and of a collection
abbrev pub walk_breaches : Setting → Option (ℕ × Part) → Name → List Breach → List Breach
walk_breaches s None source inner = broken_at Y13 source
walk_breaches s (Some variable) source inner = walk_into (shape_at s variable.1.node) source inner

abbrev mutual
  -- the breaches of a statement in a scope
  pub stmt_breaches : Setting → List Variable → Stmt → List Breach
  stmt_breaches s scope Skip = []
  stmt_breaches s scope (Charge measure) = measure_use (meant s measure) measure
  stmt_breaches s scope (Call callee arg) =
      procedure_use (meant s callee) callee
      ++ argument_breaches (found scope arg) (signature_meant s (meant s callee)).on arg callee
  stmt_breaches s scope (Block stmts) = stmts_breaches s scope stmts
  stmt_breaches s scope (Case var arms) =
      case_breaches s (found scope var) var (count_arms arms)
      (arms_breaches s (case_stands s (found scope var)) var arms)
  stmt_breaches s scope (Forall var source body) =
      walk_breaches s (found scope source) source
      (stmt_breaches s
      (record { name = var.text; part = walked s (found scope source) } ∷ []) body)

  pub stmts_breaches : Setting → List Variable → Stmts → List Breach
  stmts_breaches s scope no_stmts = []
  stmts_breaches s scope (a_stmt stmt rest) =
      stmt_breaches s scope stmt ++ stmts_breaches s scope rest

  -- those of arms that stand for these, in a case on this variable
  pub arms_breaches : Setting → List Stand → Name → SourceArms → List Breach
  arms_breaches s stands var no_source_arms = []
  arms_breaches s [] var (a_source_arm pattern body rest) = []
  arms_breaches s (stand ∷ stands) var (a_source_arm pattern body rest) =
      arm_breaches s stand var pattern (stmt_breaches s (bound s stand pattern) body)
      ++ arms_breaches s stands var rest
