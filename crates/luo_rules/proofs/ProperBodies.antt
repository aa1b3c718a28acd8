-- What the grammar gives of statements and values: a case has an arm.
use Rattle.std.proofs.Common.{◌≤◌, List, ◌∷◌, sym, subst, arith}
use Rattle.luo_scan.specs.Lexemes.{Lexeme}
use Rattle.luo_source.specs.declared.statements.SourceArm.{SourceArm}
use Rattle.luo_source.specs.declared.statements.Stmt as read
use Rattle.luo_source.specs.declared.values.SourceValueArm.{SourceValueArm}
use Rattle.luo_source.specs.declared.values.SourceValue as held
use Rattle.luo_source.specs.Plain.Statements as stmt
use Rattle.luo_source.specs.Plain.Statements.{Stmt, Stmts, no_stmts, a_stmt, SourceArms, no_source_arms, a_source_arm}
use Rattle.luo_source.specs.Plain.Values as val
use Rattle.luo_source.specs.Plain.Values.{SourceValue, SourceValues, no_source_values, a_source_value, SourceValueArms, no_source_value_arms, a_source_value_arm}
use Rattle.luo_source.specs.View.{stmt_of, stmt_list, source_arm_list, source_value_of, source_value_list, source_value_arm_list}
use Rattle.luo_source.specs.GrammarStatements.{IsBlock, empty_block, full_block, AreStmts, last_stmt, more_stmts, IsStmt, simple_stmt, case_stmt, forall_stmt, IsSimple, block_stmt, skip_stmt, charge_stmt, call_stmt, AreArms, last_arm, more_arms, IsArm, one_arm}
use Rattle.luo_source.specs.GrammarValues.{IsValue, branch_value, inner_value, IsBranch, branch, IsInner, given, made, free_atom, charged_atom, bracketed, tuple, case_value, AreParts, last_part, more_parts, AreValueArms, last_value_arm, more_value_arms, IsValueArm, one_value_arm}
use Rattle.luo_source.proofs.ViewLemmas as shown
use Rattle.luo_rules.specs.ValueBreaches.{count_value_arms}
use Rattle.luo_rules.specs.StatementBreaches.{count_arms}

abbrev mutual
  pub ProperStmt : Stmt → Type 0
  ProperStmt (stmt.Block stmts) = ProperStmts stmts
  ProperStmt (stmt.Case var arms) = (1 ≤ count_arms arms) × ProperArms arms
  ProperStmt (stmt.Forall var source body) = ProperStmt body
  ProperStmt _ = Unit {0}

  pub ProperStmts : Stmts → Type 0
  ProperStmts no_stmts = Unit {0}
  ProperStmts (a_stmt s rest) = ProperStmt s × ProperStmts rest

  pub ProperArms : SourceArms → Type 0
  ProperArms no_source_arms = Unit {0}
  ProperArms (a_source_arm pattern body rest) = ProperStmt body × ProperArms rest

abbrev mutual
  pub ProperValue : SourceValue → Type 0
  ProperValue (val.Tuple parts at) = ProperValues parts
  ProperValue (val.Branch number at inner) = ProperValue inner
  ProperValue (val.Case var arms) = (1 ≤ count_value_arms arms) × ProperValueArms arms
  ProperValue _ = Unit {0}

  pub ProperValues : SourceValues → Type 0
  ProperValues no_source_values = Unit {0}
  ProperValues (a_source_value v rest) = ProperValue v × ProperValues rest

  pub ProperValueArms : SourceValueArms → Type 0
  ProperValueArms no_source_value_arms = Unit {0}
  ProperValueArms (a_source_value_arm pattern body rest) = ProperValue body × ProperValueArms rest

mutual
  pub block_proper : {from to : List Lexeme} {stmts : List read.Stmt} → IsBlock from to stmts → ProperStmts (stmt_list stmts)
  block_proper empty_block = tt
  block_proper (full_block p) = stmts_proper p

  stmts_proper : {from to : List Lexeme} {stmts : List read.Stmt} → AreStmts from to stmts → ProperStmts (stmt_list stmts)
  stmts_proper (last_stmt p) = (stmt_proper p, tt)
  stmts_proper (more_stmts p ps) = (stmt_proper p, stmts_proper ps)

  stmt_proper : {from to : List Lexeme} {s : read.Stmt} → IsStmt from to s → ProperStmt (stmt_of s)
  stmt_proper (simple_stmt p) = simple_proper p
  stmt_proper (case_stmt {text} {at} {arms} p) = subst ProperStmt (sym (shown.case_stmt (record { text = text; at = at }) arms)) (arms_proper p)
  stmt_proper (forall_stmt {text} {source} {at} {source_at} {body} p) =
      subst ProperStmt (sym (shown.walk_stmt (record { text = text; at = at }) (record { text = source; at = source_at }) body)) (simple_proper p)

  simple_proper : {from to : List Lexeme} {s : read.Stmt} → IsSimple from to s → ProperStmt (stmt_of s)
  simple_proper (block_stmt {stmts} p) = subst ProperStmt (sym (shown.block_stmt stmts)) (block_proper p)
  simple_proper skip_stmt = tt
  simple_proper charge_stmt = tt
  simple_proper call_stmt = tt

  arms_proper : {from to : List Lexeme} {arms : List SourceArm} → AreArms from to arms → (1 ≤ count_arms (source_arm_list arms)) × ProperArms (source_arm_list arms)
  arms_proper (last_arm p) = (omega arith, (arm_proper p, tt))
  arms_proper (more_arms p ps) = (omega arith, (arm_proper p, (arms_proper ps).1))

  arm_proper : {from to : List Lexeme} {arm : SourceArm} → IsArm from to arm → ProperStmt (stmt_of arm.body)
  arm_proper (one_arm q p) = simple_proper p

mutual
  pub value_proper : {from to : List Lexeme} {v : held.SourceValue} → IsValue from to v → ProperValue (source_value_of v)
  value_proper (branch_value p) = of_branch p
  value_proper (inner_value p) = inner_proper p

  of_branch : {from to : List Lexeme} {v : held.SourceValue} → IsBranch from to v → ProperValue (source_value_of v)
  of_branch (branch {number} {at} {v} p) = subst ProperValue (sym (shown.branch_value number at v)) (inner_proper p)

  inner_proper : {from to : List Lexeme} {v : held.SourceValue} → IsInner from to v → ProperValue (source_value_of v)
  inner_proper given = tt
  inner_proper made = tt
  inner_proper free_atom = tt
  inner_proper charged_atom = tt
  inner_proper (bracketed p) = of_branch p
  inner_proper (tuple {at} {v} {vs} p ps) = subst ProperValue (sym (shown.tuple_value (v ∷ vs) at)) (value_proper p, parts_proper ps)
  inner_proper (case_value {text} {at} {arms} p) = subst ProperValue (sym (shown.case_value (record { text = text; at = at }) arms)) (value_arms_proper p)

  parts_proper : {from to : List Lexeme} {vs : List held.SourceValue} → AreParts from to vs → ProperValues (source_value_list vs)
  parts_proper (last_part p) = (value_proper p, tt)
  parts_proper (more_parts p ps) = (value_proper p, parts_proper ps)

  value_arms_proper : {from to : List Lexeme} {arms : List SourceValueArm} → AreValueArms from to arms → (1 ≤ count_value_arms (source_value_arm_list arms)) × ProperValueArms (source_value_arm_list arms)
  value_arms_proper (last_value_arm p) = (omega arith, (value_arm_proper p, tt))
  value_arms_proper (more_value_arms p ps) = (omega arith, (value_arm_proper p, (value_arms_proper ps).1))

  value_arm_proper : {from to : List Lexeme} {arm : SourceValueArm} → IsValueArm from to arm → ProperValue (source_value_of arm.body)
  value_arm_proper (one_value_arm q p) = value_proper p
