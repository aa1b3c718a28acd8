-- What stops isn't read.
use Rattle.std.proofs.Common.{◌≡◌, ℕ, List, ◌∷◌, refl, sym}
use Rattle.luo_scan.specs.declared.token.Word.TheVariants.{KwBegin}
use Rattle.luo_scan.specs.declared.token.TokenKind.TheVariants as kind
use Rattle.luo_scan.specs.Lexemes.{Lexeme, lexeme}
use Rattle.luo_source.specs.declared.names.Name.{Name}
use Rattle.luo_source.specs.declared.statements.SourceArm.{SourceArm}
use Rattle.luo_source.specs.declared.statements.Stmt.{Stmt}
use Rattle.luo_source.specs.declared.statements.Stmt.TheVariants.{Charge, Forall}
use Rattle.luo_source.specs.Ends.{EndsSimple}
use Rattle.luo_syntax.specs.inner.Next.{next, next_name}
use Rattle.luo_source.specs.GrammarStatements.{IsBlock, empty_block, full_block, AreStmts, last_stmt, more_stmts, IsStmt, simple_stmt, case_stmt, forall_stmt, IsSimple, block_stmt, skip_stmt, charge_stmt, call_stmt, AreArms, last_arm, more_arms, IsArm, one_arm}
use Rattle.luo_syntax.specs.inner.StopsStatements.{EndsStmt, no_call, ends_skip, ends_call, ends_block, ends_case, ends_forall, IsArg, arg, IsOver, over, ArgStops, no_arg, past_arg, OverStops, no_var, no_in, no_source, InsideStops, in_inside, StmtsStop, in_stmt, past_stmt, past_stmts, StmtStops, in_simple, in_case, in_forall, case_name, case_of, case_arms, forall_over, forall_do, forall_body, SimpleStops, no_simple, simple_inside, simple_arg, ArmsStop, in_arm, past_arm, past_arms, ArmStops, arm_pattern, arm_colon, arm_body, BlockStops, no_begin, in_block}
use Rattle.luo_source.proofs.Behind.{behind}
use Rattle.luo_syntax.proofs.PatternMoves.{pattern_no, pattern_meets}
use Rattle.luo_source.proofs.OneStatements.{block_begins, simple_begins, block_one, simple_one, arms_one, pattern_one}

charge_ends : {s : Stmt} {name : Name} {ls : List Lexeme} → EndsStmt s ls → s ≡ Charge name → EndsSimple ls
charge_ends (no_call n) e = n
charge_ends ends_skip e = cc
charge_ends ends_call e = cc
charge_ends (ends_block stmts) e = cc
charge_ends (ends_case arms) e = cc
charge_ends (ends_forall m) e = cc

forall_ends : {body : Stmt} {var source : Name} {ls : List Lexeme} → EndsStmt (Forall var source body) ls → EndsStmt body ls
unfolding Rattle.luo_source.specs.declared.statements.Stmt.TheBlock.hidden-the_row-Stmt-2 denote.Hole.Carrier.hidden
forall_ends (no_call n) = no_call n
forall_ends (ends_forall m) = m

-- a statement that is read to where it ends is the only one that ends where no statement is gone on with
pub simple_meets : {from from' to to' : List Lexeme} {s t : Stmt} → IsSimple from to s → EndsStmt s to → IsSimple from' to' t → EndsSimple to' → from ≡ from' → (to ≡ to') × (s ≡ t)
simple_meets (block_stmt p) m (block_stmt q) n e = let rest = block_one p q e in (rest.0, cc)
simple_meets skip_stmt m skip_stmt n e = (cc, cc)
simple_meets charge_stmt m q n e = simple_one charge_stmt q e (charge_ends m refl) n
simple_meets call_stmt m charge_stmt n e = absurd (n _ _ _ (sym (behind e)))
simple_meets call_stmt m call_stmt n e = (cc, cc)
simple_meets (block_stmt p) m skip_stmt n e = absurd (block_begins (λ f. cc) p _ _ _ e)
simple_meets (block_stmt p) m charge_stmt n e = absurd (block_begins (λ f. cc) p _ _ _ e)
simple_meets (block_stmt p) m call_stmt n e = absurd (block_begins (λ f. cc) p _ _ _ e)
simple_meets skip_stmt m (block_stmt q) n e = absurd (block_begins (λ f. cc) q _ _ _ (sym e))
simple_meets call_stmt m (block_stmt q) n e = absurd (block_begins (λ f. cc) q _ _ _ (sym e))
simple_meets p m q n e = cc

pub stmt_meets : {from from' to to' : List Lexeme} {s t : Stmt} → IsStmt from to s → EndsStmt s to → IsStmt from' to' t → EndsSimple to' → from ≡ from' → (to ≡ to') × (s ≡ t)
stmt_meets (simple_stmt p) m (simple_stmt q) n e = simple_meets p m q n e
stmt_meets (case_stmt p) m (case_stmt q) n e = let rest = arms_one p q (cc) in (rest.0, cc)
stmt_meets (forall_stmt p) m (forall_stmt q) n e = let rest = simple_meets p (forall_ends m) q n (cc) in (rest.0, cc)
stmt_meets (simple_stmt p) m (case_stmt q) n e = absurd (simple_begins (λ f. cc) (λ f. cc) (λ f. cc) p _ _ _ e)
stmt_meets (simple_stmt p) m (forall_stmt q) n e = absurd (simple_begins (λ f. cc) (λ f. cc) (λ f. cc) p _ _ _ e)
stmt_meets (case_stmt p) m (simple_stmt q) n e = absurd (simple_begins (λ f. cc) (λ f. cc) (λ f. cc) q _ _ _ (sym e))
stmt_meets (forall_stmt p) m (simple_stmt q) n e = absurd (simple_begins (λ f. cc) (λ f. cc) (λ f. cc) q _ _ _ (sym e))
stmt_meets (case_stmt p) m (forall_stmt q) n e = cc
stmt_meets (forall_stmt p) m (case_stmt q) n e = cc

pub arm_meets : {from from' to to' : List Lexeme} {s t : SourceArm} → IsArm from to s → EndsStmt s.body to → IsArm from' to' t → EndsSimple to' → from ≡ from' → (to ≡ to') × (s ≡ t)
arm_meets (one_arm p ps) m (one_arm q qs) n e =
    let first = pattern_one p q e (λ bytes at rest f. cc, λ bytes at rest f. cc) (λ bytes at rest f. cc, λ bytes at rest f. cc) in
    let rest = simple_meets ps m qs n (cc) in
    (rest.0, cc)

arg_no : {from from' at to : List Lexeme} {name : Name} → ArgStops from at → IsArg from' to name → from ≡ from' → ⊥
arg_no (no_arg m) arg e = m.1 _ _ _ e
arg_no (past_arg next_name m) arg e = m.1 _ _ _ (behind e)

over_no : {from from' at to : List Lexeme} {var source : Name} → OverStops from at → IsOver from' to var source → from ≡ from' → ⊥
over_no (no_var m) over e = m.1 _ _ _ e
over_no (no_in next_name m) over e = m.1 _ _ _ (behind e)
over_no (no_source next_name next m) over e = m.1 _ _ _ (behind (behind e))

mutual
  pub inside_no : {from from' at to : List Lexeme} {b : List ℕ} {k : ℕ} {s : List Stmt} → InsideStops from at → IsBlock from' to s → lexeme (kind.Word KwBegin) b k ∷ from ≡ from' → ⊥
  inside_no (in_inside n s) empty_block e = n _ _ _ (behind e)
  inside_no (in_inside n s) (full_block q) e = stmts_no s q (behind e)

  pub stmts_no : {from from' at to : List Lexeme} {s : List Stmt} → StmtsStop from at → AreStmts from' to s → from ≡ from' → ⊥
  stmts_no (in_stmt s) (last_stmt q) e = stmt_no s q e (λ bytes at rest f. cc)
  stmts_no (in_stmt s) (more_stmts q qs) e = stmt_no s q e (λ bytes at rest f. cc)
  stmts_no (past_stmt p m n r) (last_stmt q) e = n _ _ _ (stmt_meets p m q (λ bytes at rest f. cc) e).0
  stmts_no (past_stmt p m n r) (more_stmts q qs) e = r.1 _ _ _ (stmt_meets p m q (λ bytes at rest f. cc) e).0
  stmts_no (past_stmts p next s) (last_stmt q) e = let first = stmt_meets p (no_call (λ bytes at rest f. cc)) q (λ bytes at rest f. cc) e in cc
  stmts_no (past_stmts p next s) (more_stmts q qs) e = stmts_no s qs (behind (stmt_meets p (no_call (λ bytes at rest f. cc)) q (λ bytes at rest f. cc) e).0)

  pub stmt_no : {from from' at to : List Lexeme} {s : Stmt} → StmtStops from at → IsStmt from' to s → from ≡ from' → EndsSimple to → ⊥
  stmt_no (in_simple c f s) (simple_stmt q) e n = simple_no s q e n
  stmt_no (in_simple c f s) (case_stmt q) e n = c _ _ _ e
  stmt_no (in_simple c f s) (forall_stmt q) e n = f _ _ _ e
  stmt_no (in_case next s) (simple_stmt q) e n = simple_begins (λ f. cc) (λ f. cc) (λ f. cc) q _ _ _ (sym e)
  stmt_no (in_case next (case_name m)) (case_stmt q) e n = m.1 _ _ _ (behind e)
  stmt_no (in_case next (case_of next_name m)) (case_stmt q) e n = m.1 _ _ _ (behind (behind e))
  stmt_no (in_case next (case_arms next_name next s)) (case_stmt q) e n = arms_no s q (behind (behind (behind e)))
  stmt_no (in_case next s) (forall_stmt q) e n = cc
  stmt_no (in_forall next s) (simple_stmt q) e n = simple_begins (λ f. cc) (λ f. cc) (λ f. cc) q _ _ _ (sym e)
  stmt_no (in_forall next s) (case_stmt q) e n = cc
  stmt_no (in_forall next (forall_over s)) (forall_stmt q) e n = over_no s over (behind e)
  stmt_no (in_forall next (forall_do over m)) (forall_stmt q) e n = m.1 _ _ _ (behind (behind (behind (behind e))))
  stmt_no (in_forall next (forall_body over next s)) (forall_stmt q) e n = simple_no s q (behind (behind (behind (behind (behind e))))) n

  pub simple_no : {from from' at to : List Lexeme} {s : Stmt} → SimpleStops from at → IsSimple from' to s → from ≡ from' → EndsSimple to → ⊥
  simple_no (no_simple s b m) (block_stmt empty_block) e n = b _ _ _ e
  simple_no (no_simple s b m) (block_stmt (full_block q)) e n = b _ _ _ e
  simple_no (no_simple s b m) skip_stmt e n = s _ _ _ e
  simple_no (no_simple s b m) charge_stmt e n = m.1 _ _ _ e
  simple_no (no_simple s b m) call_stmt e n = m.1 _ _ _ e
  simple_no (simple_inside next s) (block_stmt q) e n = inside_no s q e
  simple_no (simple_inside next s) skip_stmt e n = cc
  simple_no (simple_inside next s) charge_stmt e n = cc
  simple_no (simple_inside next s) call_stmt e n = cc
  simple_no (simple_arg next_name next s) (block_stmt q) e n = block_begins (λ f. cc) q _ _ _ (sym e)
  simple_no (simple_arg next_name next s) skip_stmt e n = cc
  simple_no (simple_arg next_name next s) charge_stmt e n = n _ _ _ (sym (behind e))
  simple_no (simple_arg next_name next s) call_stmt e n = arg_no s arg (behind (behind e))

  pub arms_no : {from from' at to : List Lexeme} {s : List SourceArm} → ArmsStop from at → AreArms from' to s → from ≡ from' → ⊥
  arms_no (in_arm s) (last_arm q) e = arm_no s q e (λ bytes at rest f. cc)
  arms_no (in_arm s) (more_arms q qs) e = arm_no s q e (λ bytes at rest f. cc)
  arms_no (past_arm p m n r) (last_arm q) e = n _ _ _ (arm_meets p m q (λ bytes at rest f. cc) e).0
  arms_no (past_arm p m n r) (more_arms q qs) e = r.1 _ _ _ (arm_meets p m q (λ bytes at rest f. cc) e).0
  arms_no (past_arms p next s) (last_arm q) e = let first = arm_meets p (no_call (λ bytes at rest f. cc)) q (λ bytes at rest f. cc) e in cc
  arms_no (past_arms p next s) (more_arms q qs) e = arms_no s qs (behind (arm_meets p (no_call (λ bytes at rest f. cc)) q (λ bytes at rest f. cc) e).0)

  pub arm_no : {from from' at to : List Lexeme} {s : SourceArm} → ArmStops from at → IsArm from' to s → from ≡ from' → EndsSimple to → ⊥
  arm_no (arm_pattern s) (one_arm q qs) e n = pattern_no s q e (λ bytes at rest f. cc, λ bytes at rest f. cc)
  arm_no (arm_colon p m r) (one_arm q qs) e n = r.1 _ _ _ (pattern_meets p m q (λ bytes at rest f. cc, λ bytes at rest f. cc) e).0
  arm_no (arm_body p next s) (one_arm q qs) e n = simple_no s qs (behind (pattern_one p q e (λ bytes at rest f. cc, λ bytes at rest f. cc) (λ bytes at rest f. cc, λ bytes at rest f. cc)).0) n

pub block_no : {from from' at to : List Lexeme} {s : List Stmt} → BlockStops from at → IsBlock from' to s → from ≡ from' → ⊥
block_no (no_begin m) empty_block e = m.1 _ _ _ e
block_no (no_begin m) (full_block q) e = m.1 _ _ _ e
block_no (in_block next s) q e = inside_no s q e
