-- The breaches of statements stand at rising tokens.
use Rattle.std.proofs.Common.{ℕ, ◌+◌, ◌<◌, ◌≤◌, List, [], ◌∷◌, length, refl, sym, subst, Option, Some, None, arith}
use Rattle.luo_model.specs.Scopes.Stands.{Stand, inside, no_part}
use Rattle.luo_model.specs.declared.program.Part.{Part}
use Rattle.luo_model.specs.declared.program.Shape.{Shape}
use Rattle.luo_model.specs.declared.program.Shape.TheVariants as shape
use Rattle.luo_scan.specs.Lexemes.{Lexeme}
use Rattle.luo_source.specs.declared.names.Name.{Name}
use Rattle.luo_source.specs.declared.statements.SourceArm.{SourceArm}
use Rattle.luo_source.specs.declared.statements.Stmt.{Stmt}
use Rattle.luo_source.specs.GrammarStatements.{IsBlock, empty_block, full_block, AreStmts, last_stmt, more_stmts, IsStmt, simple_stmt, case_stmt, forall_stmt, IsSimple, block_stmt, skip_stmt, charge_stmt, call_stmt, AreArms, last_arm, more_arms, IsArm, one_arm}
use Rattle.luo_source.specs.View.{stmt_of, stmt_list, source_arm_list}
use Rattle.luo_rules.specs.declared.rule.Breach.{Breach}
use Rattle.luo_rules.specs.declared.setting.Setting.{Setting}
use Rattle.luo_rules.specs.declared.setting.Variable.{Variable}
use Rattle.luo_rules.specs.Settings.{meant, signature_meant, shape_at, found, case_stands}
use Rattle.luo_rules.specs.Patterns.{bound}
use Rattle.luo_rules.specs.StatementBreaches.{walk_into, walk_breaches, stmt_breaches, stmts_breaches, arms_breaches}
use Rattle.luo_rules.specs.inner.StatementLists.{one_arm_breaches}
use Rattle.luo_rules.proofs.StatementForms.{walk_scope, block-breaches, case-breaches, walk-breaches}
use Rattle.luo_rules.proofs.Rise.Lists.{single, nothing, placed, led}
use Rattle.luo_rules.proofs.Rise.Names.{From, Spans, behind, past, alone, from_lower, in_place, measure_use_at, procedure_use_at}
use Rattle.luo_rules.proofs.Rise.Patterns.{emptied, pattern_spans, arm_spans, argument_at, case_spans}

-- a walk before its body
walk_into_spans : (form : Shape) (source : Name) {low mid : ℕ} {to : List Lexeme} {inner : List Breach} → low ≤ source.at → source.at < mid → Spans mid to inner → Spans low to (walk_into form source inner)
walk_into_spans (shape.Coll kind part least greatest) source l m one = from_lower (omega (arith, l, m)) one
walk_into_spans _ source l m one = in_place (single refl) l m one

walk_spans : (s : Setting) (there : Option (ℕ × Part)) (source : Name) {low mid : ℕ} {to : List Lexeme} {inner : List Breach} → low ≤ source.at → source.at < mid → Spans mid to inner → Spans low to (walk_breaches s there source inner)
walk_spans s None source l m one = in_place (single refl) l m one
walk_spans s (Some variable) source l m one = walk_into_spans (shape_at s variable.1.node) source l m one

mutual
  pub block_spans : (s : Setting) (scope : List Variable) (low : ℕ) {from to : List Lexeme} {stmts : List Stmt} → IsBlock from to stmts → From low from → Spans low to (stmts_breaches s scope (stmt_list stmts))
  block_spans s scope low (empty_block {l}) h = record { next = l + 1; left = h.1.1; within = nothing (omega (arith, h.0, h.1.0)) }
  block_spans s scope low (full_block {k = j} p) h = from_lower (omega (arith, h.0)) (stmts_spans s scope (j + 1) p h.1)

  stmts_spans : (s : Setting) (scope : List Variable) (low : ℕ) {from to : List Lexeme} {stmts : List Stmt} → AreStmts from to stmts → From low from → Spans low to (stmts_breaches s scope (stmt_list stmts))
  stmts_spans s scope low (last_stmt p) h = alone (past (stmt_spans s scope low p h))
  stmts_spans s scope low (more_stmts {k = j} p ps) h =
      let one = stmt_spans s scope low p h in
      behind one (stmts_spans s scope (j + 1) ps one.left.1)

  stmt_spans : (s : Setting) (scope : List Variable) (low : ℕ) {from to : List Lexeme} {one : Stmt} → IsStmt from to one → From low from → Spans low to (stmt_breaches s scope (stmt_of one))
  stmt_spans s scope low (simple_stmt p) h = simple_spans s scope low p h
  stmt_spans s scope low (case_stmt {text} {at} {l} {arms} p) h =
      let var : Name = record { text = text; at = at } in
      let inner = arms_spans s (case_stands s (found scope var)) var (l + 1) p h.1.1.1 in
      subst (Spans low _) (sym (case-breaches s scope var arms)) (case_spans s (found scope var) var (length arms) (omega (arith, h.0, h.1.0)) (omega (arith, h.1.1.0)) inner)
  stmt_spans s scope low (forall_stmt {text} {source} {at} {source_at} {m} {body} p) h =
      let var : Name = record { text = text; at = at } in
      let over : Name = record { text = source; at = source_at } in
      let inner = simple_spans s (walk_scope s scope var over) (m + 1) p h.1.1.1.1.1 in
      subst (Spans low _) (sym (walk-breaches s scope var over body)) (walk_spans s (found scope over) over (omega (arith, h.0, h.1.0, h.1.1.0, h.1.1.1.0)) (omega (arith, h.1.1.1.1.0)) inner)

  simple_spans : (s : Setting) (scope : List Variable) (low : ℕ) {from to : List Lexeme} {one : Stmt} → IsSimple from to one → From low from → Spans low to (stmt_breaches s scope (stmt_of one))
  simple_spans s scope low (block_stmt {stmts} p) h = subst (Spans low _) (sym (block-breaches s scope stmts)) (block_spans s scope low p h)
  simple_spans s scope low (skip_stmt {k = j}) h = record { next = j + 1; left = h.1; within = nothing (omega (arith, h.0)) }
  simple_spans s scope low (charge_stmt {text} {at}) h =
      let name : Name = record { text = text; at = at } in
      record { next = at + 1; left = h.1; within = placed (measure_use_at (meant s name) name) h.0 (omega arith) }
  simple_spans s scope low (call_stmt {text} {arg} {at} {arg_at} {l}) h =
      let callee : Name = record { text = text; at = at } in
      let given : Name = record { text = arg; at = arg_at } in
      let argument = placed (argument_at (found scope given) (signature_meant s (meant s callee)).on given callee) (omega (arith, h.1.0, h.1.1.0)) (omega (arith, h.1.1.1.0)) in
      record { next = l + 1; left = h.1.1.1.1; within = led (procedure_use_at (meant s callee) callee) h.0 argument }

  arms_spans : (s : Setting) (stands : List Stand) (var : Name) (low : ℕ) {from to : List Lexeme} {arms : List SourceArm} → AreArms from to arms → From low from → Spans low to (arms_breaches s stands var (source_arm_list arms))
  arms_spans s [] var low (last_arm p) h = emptied (past (one_arm_spans s (inside no_part) var low p h))
  arms_spans s (stand ∷ stands) var low (last_arm p) h = alone (past (one_arm_spans s stand var low p h))
  arms_spans s [] var low (more_arms {k = j} p ps) h =
      let one = one_arm_spans s (inside no_part) var low p h in
      emptied (behind one (arms_spans s [] var (j + 1) ps one.left.1))
  arms_spans s (stand ∷ stands) var low (more_arms {k = j} p ps) h =
      let one = one_arm_spans s stand var low p h in
      behind one (arms_spans s stands var (j + 1) ps one.left.1)

  one_arm_spans : (s : Setting) (stand : Stand) (var : Name) (low : ℕ) {from to : List Lexeme} {arm : SourceArm} → IsArm from to arm → From low from → Spans low to (one_arm_breaches s stand var arm)
  one_arm_spans s stand var low (one_arm {k = j} {p} q body) h =
      let one = pattern_spans s stand var low q h in
      arm_spans s stand var p one (simple_spans s (bound s stand p) (j + 1) body one.left.1)
