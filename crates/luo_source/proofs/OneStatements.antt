-- Patterns, statements and blocks are read in one way.
use Rattle.std.proofs.Common.{◌≡◌, List, sym}
use Rattle.luo_scan.specs.declared.token.Word.TheVariants.{KwBegin, KwEnd, KwSkip}
use Rattle.luo_scan.specs.declared.token.TokenKind.{TokenKind}
use Rattle.luo_scan.specs.declared.token.TokenKind.TheVariants as kind
use Rattle.luo_scan.specs.Lexemes.{Lexeme}
use Rattle.luo_source.specs.declared.statements.Pattern.{Pattern}
use Rattle.luo_source.specs.declared.statements.SourceArm.{SourceArm}
use Rattle.luo_source.specs.declared.statements.Stmt.{Stmt}
use Rattle.luo_source.specs.Ends.{No, EndsSimple, EndsPattern}
use Rattle.luo_source.specs.GrammarStatements.{IsPattern, pattern_named, pattern_whole, pattern_named_parts, pattern_parts, pattern_any, pattern_any_whole, IsBlock, empty_block, full_block, AreStmts, last_stmt, more_stmts, IsStmt, simple_stmt, case_stmt, forall_stmt, IsSimple, block_stmt, skip_stmt, charge_stmt, call_stmt, AreArms, last_arm, more_arms, IsArm, one_arm}
use Rattle.luo_source.proofs.Behind.{behind}
use Rattle.luo_source.proofs.OneTypes.{names_one}

pub pattern_one : {from from' to to' : List Lexeme} {p q : Pattern} → IsPattern from to p → IsPattern from' to' q → from ≡ from' → EndsPattern to → EndsPattern to' → (to ≡ to') × (p ≡ q)
pattern_one pattern_named pattern_named e m n = (cc, cc)
pattern_one pattern_named pattern_whole e m n = absurd (m.0 _ _ _ (behind e))
pattern_one pattern_named (pattern_named_parts q) e m n = absurd (m.1 _ _ _ (behind e))
pattern_one pattern_whole pattern_named e m n = absurd (n.0 _ _ _ (sym (behind e)))
pattern_one pattern_whole pattern_whole e m n = (cc, cc)
pattern_one (pattern_named_parts p) pattern_named e m n = absurd (n.1 _ _ _ (sym (behind e)))
pattern_one (pattern_named_parts p) (pattern_named_parts q) e m n = let rest = names_one (λ f. cc) p q (cc) in (rest.0, cc)
pattern_one (pattern_parts p) (pattern_parts q) e m n = let rest = names_one (λ f. cc) p q (cc) in (rest.0, cc)
pattern_one pattern_any pattern_any e m n = (cc, cc)
pattern_one pattern_any pattern_any_whole e m n = absurd (m.0 _ _ _ (behind e))
pattern_one pattern_any_whole pattern_any e m n = absurd (n.0 _ _ _ (sym (behind e)))
pattern_one pattern_any_whole pattern_any_whole e m n = (cc, cc)
pattern_one p q e m n = cc

-- a block begins with `begin`
pub block_begins : {what : TokenKind} {from to : List Lexeme} {s : List Stmt} → (kind.Word KwBegin ≡ what → ⊥) → IsBlock from to s → No what from
block_begins n empty_block b k r e = n (cc)
block_begins n (full_block p) b k r e = n (cc)

-- a simple statement begins with `begin`, `skip` or a name
pub simple_begins : {what : TokenKind} {from to : List Lexeme} {s : Stmt} → (kind.Word KwBegin ≡ what → ⊥) → (kind.Word KwSkip ≡ what → ⊥) → (kind.Name ≡ what → ⊥) → IsSimple from to s → No what from
simple_begins l m n (block_stmt p) b k r e = block_begins l p b k r e
simple_begins l m n skip_stmt b k r e = m (cc)
simple_begins l m n charge_stmt b k r e = n (cc)
simple_begins l m n call_stmt b k r e = n (cc)

-- no statement begins with `end`
pub stmt_not_end : {from to : List Lexeme} {s : Stmt} → IsStmt from to s → No (kind.Word KwEnd) from
stmt_not_end (simple_stmt p) b k r e = simple_begins (λ f. cc) (λ f. cc) (λ f. cc) p b k r e
stmt_not_end (case_stmt p) b k r e = cc
stmt_not_end (forall_stmt p) b k r e = cc

pub stmts_not_end : {from to : List Lexeme} {s : List Stmt} → AreStmts from to s → No (kind.Word KwEnd) from
stmts_not_end (last_stmt p) b k r e = stmt_not_end p b k r e
stmts_not_end (more_stmts p ps) b k r e = stmt_not_end p b k r e

mutual
  pub block_one : {from from' to to' : List Lexeme} {s t : List Stmt} → IsBlock from to s → IsBlock from' to' t → from ≡ from' → (to ≡ to') × (s ≡ t)
  block_one empty_block empty_block e = (cc, cc)
  block_one empty_block (full_block q) e = absurd (stmts_not_end q _ _ _ (sym (behind e)))
  block_one (full_block p) empty_block e = absurd (stmts_not_end p _ _ _ (behind e))
  block_one (full_block p) (full_block q) e = stmts_one p q (cc)

  pub stmts_one : {from from' to to' : List Lexeme} {s t : List Stmt} → AreStmts from to s → AreStmts from' to' t → from ≡ from' → (to ≡ to') × (s ≡ t)
  stmts_one (last_stmt p) (last_stmt q) e =
      let first = stmt_one p q e (λ bytes at rest f. cc) (λ bytes at rest f. cc) in (cc, cc)
  stmts_one (last_stmt p) (more_stmts q qs) e =
      let first = stmt_one p q e (λ bytes at rest f. cc) (λ bytes at rest f. cc) in cc
  stmts_one (more_stmts p ps) (last_stmt q) e =
      let first = stmt_one p q e (λ bytes at rest f. cc) (λ bytes at rest f. cc) in cc
  stmts_one (more_stmts p ps) (more_stmts q qs) e =
      let first = stmt_one p q e (λ bytes at rest f. cc) (λ bytes at rest f. cc) in
      let rest = stmts_one ps qs (cc) in
      (rest.0, cc)

  pub stmt_one : {from from' to to' : List Lexeme} {s t : Stmt} → IsStmt from to s → IsStmt from' to' t → from ≡ from' → EndsSimple to → EndsSimple to' → (to ≡ to') × (s ≡ t)
  stmt_one (simple_stmt p) (simple_stmt q) e m n = simple_one p q e m n
  stmt_one (case_stmt p) (case_stmt q) e m n = let rest = arms_one p q (cc) in (rest.0, cc)
  stmt_one (forall_stmt p) (forall_stmt q) e m n = let rest = simple_one p q (cc) m n in (rest.0, cc)
  stmt_one (simple_stmt p) (case_stmt q) e m n = absurd (simple_begins (λ f. cc) (λ f. cc) (λ f. cc) p _ _ _ e)
  stmt_one (simple_stmt p) (forall_stmt q) e m n = absurd (simple_begins (λ f. cc) (λ f. cc) (λ f. cc) p _ _ _ e)
  stmt_one (case_stmt p) (simple_stmt q) e m n = absurd (simple_begins (λ f. cc) (λ f. cc) (λ f. cc) q _ _ _ (sym e))
  stmt_one (forall_stmt p) (simple_stmt q) e m n = absurd (simple_begins (λ f. cc) (λ f. cc) (λ f. cc) q _ _ _ (sym e))
  stmt_one (case_stmt p) (forall_stmt q) e m n = cc
  stmt_one (forall_stmt p) (case_stmt q) e m n = cc

  pub simple_one : {from from' to to' : List Lexeme} {s t : Stmt} → IsSimple from to s → IsSimple from' to' t → from ≡ from' → EndsSimple to → EndsSimple to' → (to ≡ to') × (s ≡ t)
  simple_one (block_stmt p) (block_stmt q) e m n = let rest = block_one p q e in (rest.0, cc)
  simple_one skip_stmt skip_stmt e m n = (cc, cc)
  simple_one charge_stmt charge_stmt e m n = (cc, cc)
  simple_one charge_stmt call_stmt e m n = absurd (m _ _ _ (behind e))
  simple_one call_stmt charge_stmt e m n = absurd (n _ _ _ (sym (behind e)))
  simple_one call_stmt call_stmt e m n = (cc, cc)
  simple_one (block_stmt p) skip_stmt e m n = absurd (block_begins (λ f. cc) p _ _ _ e)
  simple_one (block_stmt p) charge_stmt e m n = absurd (block_begins (λ f. cc) p _ _ _ e)
  simple_one (block_stmt p) call_stmt e m n = absurd (block_begins (λ f. cc) p _ _ _ e)
  simple_one skip_stmt (block_stmt q) e m n = absurd (block_begins (λ f. cc) q _ _ _ (sym e))
  simple_one charge_stmt (block_stmt q) e m n = absurd (block_begins (λ f. cc) q _ _ _ (sym e))
  simple_one call_stmt (block_stmt q) e m n = absurd (block_begins (λ f. cc) q _ _ _ (sym e))
  simple_one p q e m n = cc

  pub arms_one : {from from' to to' : List Lexeme} {s t : List SourceArm} → AreArms from to s → AreArms from' to' t → from ≡ from' → (to ≡ to') × (s ≡ t)
  arms_one (last_arm p) (last_arm q) e =
      let first = arm_one p q e (λ bytes at rest f. cc) (λ bytes at rest f. cc) in (cc, cc)
  arms_one (last_arm p) (more_arms q qs) e =
      let first = arm_one p q e (λ bytes at rest f. cc) (λ bytes at rest f. cc) in cc
  arms_one (more_arms p ps) (last_arm q) e =
      let first = arm_one p q e (λ bytes at rest f. cc) (λ bytes at rest f. cc) in cc
  arms_one (more_arms p ps) (more_arms q qs) e =
      let first = arm_one p q e (λ bytes at rest f. cc) (λ bytes at rest f. cc) in
      let rest = arms_one ps qs (cc) in
      (rest.0, cc)

  pub arm_one : {from from' to to' : List Lexeme} {s t : SourceArm} → IsArm from to s → IsArm from' to' t → from ≡ from' → EndsSimple to → EndsSimple to' → (to ≡ to') × (s ≡ t)
  arm_one (one_arm p ps) (one_arm q qs) e m n =
      let first = pattern_one p q e (λ bytes at rest f. cc, λ bytes at rest f. cc) (λ bytes at rest f. cc, λ bytes at rest f. cc) in
      let rest = simple_one ps qs (cc) m n in
      (rest.0, cc)
