-- How statements are put together, and lists of them read one by one.
use Rattle.std.proofs.Common.{◌≡◌, ◌<◌, ◌≤◌, List, [], ◌∷◌, ◌++◌, length, append_assoc, ap, sym, subst, ◌∙◌, arith}
use Rattle.luo_scan.specs.declared.token.Word.TheVariants.{KwBegin, KwEnd, KwCase, KwOf, KwForall, KwIn, KwDo, KwSkip}
use Rattle.luo_scan.specs.declared.token.Mark.TheVariants.{Semicolon, LeftRound, RightRound, Colon}
use Rattle.luo_scan.specs.declared.token.TokenKind.TheVariants as kind
use Rattle.luo_scan.specs.Lexemes.{Lexeme}
use Rattle.luo_source.specs.declared.names.Name.{Name}
use Rattle.luo_source.specs.declared.statements.Pattern.{Pattern}
use Rattle.luo_source.specs.declared.statements.SourceArm.{SourceArm}
use Rattle.luo_source.specs.declared.statements.Stmt.{Stmt}
use Rattle.luo_source.specs.declared.statements.Stmt.TheVariants.{Skip, Charge, Call, Block, Case, Forall}
use Rattle.luo_syntax.specs.inner.Next.{IsNext, next, IsName, next_name, Misses, MissesName}
use Rattle.luo_source.specs.GrammarStatements.{IsPattern, IsBlock, empty_block, full_block, AreStmts, last_stmt, more_stmts, IsStmt, simple_stmt, case_stmt, forall_stmt, IsSimple, block_stmt, skip_stmt, charge_stmt, call_stmt, AreArms, last_arm, more_arms, IsArm, one_arm}
use Rattle.luo_syntax.specs.inner.StopsStatements.{EndsStmt, no_call, ends_skip, ends_call, ends_block, ends_case, ends_forall, IsInside, nothing_inside, stmts_inside, IsBehind, IsArg, arg, IsOver, over, ArgStops, no_arg, past_arg, OverStops, no_var, no_in, no_source, InsideStops, in_inside, StmtsStop, in_stmt, past_stmt, past_stmts, StmtStops, in_simple, in_case, in_forall, CaseStops, case_name, case_of, case_arms, ForallStops, forall_over, forall_do, forall_body, SimpleStops, no_simple, simple_inside, simple_arg, ArmsStop, in_arm, past_arm, past_arms, ArmStops, arm_pattern, arm_colon, arm_body, BlockStops, no_begin, in_block}
use Rattle.luo_syntax.proofs.Nexts.{next_past, misses_past, no_at, next_shorter, name_shorter}
use Rattle.luo_syntax.proofs.PatternSteps.{pattern_shorter}

pub block_of : {from mid to : List Lexeme} {s : List Stmt} → IsNext (kind.Word KwBegin) from mid → IsInside mid to s → IsBlock from to s
block_of next nothing_inside = empty_block
block_of next (stmts_inside p) = full_block p

pub empty_inside : {from to : List Lexeme} → IsNext (kind.Word KwEnd) from to → IsInside from to []
empty_inside next = nothing_inside

pub arg_of : {from mid to : List Lexeme} {name : Name} → IsName from mid name → IsNext (kind.Mark RightRound) mid to → IsArg from to name
arg_of next_name next = arg

pub over_of : {from next mid to : List Lexeme} {var source : Name} → IsName from next var → IsNext (kind.Word KwIn) next mid → IsName mid to source → IsOver from to var source
over_of next_name next next_name = over

pub skip_of : {from to : List Lexeme} → IsNext (kind.Word KwSkip) from to → IsSimple from to Skip
skip_of next = skip_stmt

pub block_stmt_of : {from mid to : List Lexeme} {s : List Stmt} → IsNext (kind.Word KwBegin) from mid → IsInside mid to s → IsSimple from to (Block s)
block_stmt_of p q = block_stmt (block_of p q)

pub charge_of : {from to : List Lexeme} {name : Name} → IsName from to name → IsSimple from to (Charge name)
charge_of next_name = charge_stmt

pub call_of : {from next mid to : List Lexeme} {callee name : Name} → IsName from next callee → IsNext (kind.Mark LeftRound) next mid → IsArg mid to name → IsSimple from to (Call callee name)
call_of next_name next arg = call_stmt

pub case_of_arms : {from next mid to : List Lexeme} {var : Name} {arms : List SourceArm} → IsName from next var → IsNext (kind.Word KwOf) next mid → AreArms mid to arms → IsBehind KwCase from to (Case var arms)
case_of_arms next_name next p = λ b k. case_stmt p

pub forall_of : {from next mid to : List Lexeme} {var source : Name} {body : Stmt} → IsOver from next var source → IsNext (kind.Word KwDo) next mid → IsSimple mid to body → IsBehind KwForall from to (Forall var source body)
forall_of over next p = λ b k. forall_stmt p

pub forall_boxed : {from next mid to : List Lexeme} {var source : Name} {body body' : Stmt} → IsOver from next var source → IsNext (kind.Word KwDo) next mid → IsSimple mid to body → body' ≡ body → IsBehind KwForall from to (Forall var source body')
forall_boxed {from} {to} {var} {source} p q r e = subst (λ z. IsBehind KwForall from to (Forall var source z)) (sym e) (forall_of p q r)

pub ends_boxed : {ls : List Lexeme} {var source : Name} {body body' : Stmt} → EndsStmt body ls → body' ≡ body → EndsStmt (Forall var source body') ls
ends_boxed {ls} m e = ends_forall (subst (λ z. EndsStmt z ls) (sym e) m)

pub behind_case : {from mid to : List Lexeme} {s : Stmt} → IsNext (kind.Word KwCase) from mid → IsBehind KwCase mid to s → IsStmt from to s
behind_case next p = p _ _

forall_behind_it : {from mid to : List Lexeme} {s : Stmt} → IsNext (kind.Word KwForall) from mid → IsBehind KwForall mid to s → IsStmt from to s
forall_behind_it next p = p _ _

-- what comes next where a case was missed
pub behind_forall : {from past mid to : List Lexeme} {s : Stmt} → Misses (kind.Word KwCase) from past → IsNext (kind.Word KwForall) past mid → IsBehind KwForall mid to s → IsStmt from to s
behind_forall m n p = forall_behind_it (next_past m n) p

pub behind_neither : {from past mid to : List Lexeme} {s : Stmt} → Misses (kind.Word KwCase) from past → Misses (kind.Word KwForall) past mid → IsSimple mid to s → IsStmt from to s
behind_neither {to} {s} m n p = simple_stmt (subst (λ z. IsSimple z to s) (n.0 ∙ m.0) p)

pub stops_forall : {from past mid at : List Lexeme} → Misses (kind.Word KwCase) from past → IsNext (kind.Word KwForall) past mid → ForallStops mid at → StmtStops from at
stops_forall m n s = in_forall (next_past m n) s

pub stops_neither : {from past mid at : List Lexeme} → Misses (kind.Word KwCase) from past → Misses (kind.Word KwForall) past mid → SimpleStops mid at → StmtStops from at
stops_neither {at} m n s = in_simple m.1 (misses_past m n).1 (subst (λ z. SimpleStops z at) (n.0 ∙ m.0) s)

-- what comes next where no end did
pub inside_past : {from mid to : List Lexeme} {s : List Stmt} → Misses (kind.Word KwEnd) from mid → AreStmts mid to s → IsInside from to s
inside_past {to} {s} m p = stmts_inside (subst (λ z. AreStmts z to s) m.0 p)

pub stops_inside : {from mid at : List Lexeme} → Misses (kind.Word KwEnd) from mid → StmtsStop mid at → InsideStops from at
stops_inside {at} m s = in_inside m.1 (subst (λ z. StmtsStop z at) m.0 s)

-- what comes next where no `skip` did
pub block_past : {from past mid to : List Lexeme} {s : List Stmt} → Misses (kind.Word KwSkip) from past → IsNext (kind.Word KwBegin) past mid → IsInside mid to s → IsSimple from to (Block s)
block_past m n p = block_stmt (block_of (next_past m n) p)

pub stops_block : {from past mid at : List Lexeme} → Misses (kind.Word KwSkip) from past → IsNext (kind.Word KwBegin) past mid → InsideStops mid at → SimpleStops from at
stops_block m n s = simple_inside (next_past m n) s

-- what comes next where neither `skip` nor `begin` did
pub charge_past : {from past mid next to : List Lexeme} {name : Name} → Misses (kind.Word KwSkip) from past → Misses (kind.Word KwBegin) past mid → IsName mid next name → Misses (kind.Mark LeftRound) next to → IsSimple from to (Charge name)
charge_past {mid} {to} {name} m n p r = subst (λ z. IsSimple z to (Charge name)) (n.0 ∙ m.0) (subst (λ z. IsSimple mid z (Charge name)) (sym r.0) (charge_of p))

pub call_past : {from past mid next rest to : List Lexeme} {callee name : Name} → Misses (kind.Word KwSkip) from past → Misses (kind.Word KwBegin) past mid → IsName mid next callee → IsNext (kind.Mark LeftRound) next rest → IsArg rest to name → IsSimple from to (Call callee name)
call_past {to} {callee} {name} m n p q r = subst (λ z. IsSimple z to (Call callee name)) (n.0 ∙ m.0) (call_of p q r)

pub stops_name : {from past mid at : List Lexeme} → Misses (kind.Word KwSkip) from past → Misses (kind.Word KwBegin) past mid → MissesName mid at → SimpleStops from at
stops_name m n p = no_simple m.1 (misses_past m n).1 (misses_past m (misses_past n p))

pub stops_arg : {from past mid next rest at : List Lexeme} {name : Name} → Misses (kind.Word KwSkip) from past → Misses (kind.Word KwBegin) past mid → IsName mid next name → IsNext (kind.Mark LeftRound) next rest → ArgStops rest at → SimpleStops from at
stops_arg {at} m n p q s = subst (λ z. SimpleStops z at) (n.0 ∙ m.0) (simple_arg p q s)

pub charge_ends_here : {ls at : List Lexeme} {name : Name} → Misses (kind.Mark LeftRound) ls at → EndsStmt (Charge name) at
charge_ends_here m = no_call (no_at m.1 m.0)

-- a statement has no semicolon or end, and where it was read neither came
pub stops_past_stmt : {from next past at : List Lexeme} {stmt : Stmt} → IsStmt from next stmt → EndsStmt stmt next → Misses (kind.Word KwEnd) next past → Misses (kind.Mark Semicolon) past at → StmtsStop from at
stops_past_stmt p m n r = past_stmt p m n.1 (misses_past n r)

pub stops_past_arm : {from next past at : List Lexeme} {arm : SourceArm} → IsArm from next arm → EndsStmt arm.body next → Misses (kind.Word KwEnd) next past → Misses (kind.Mark Semicolon) past at → ArmsStop from at
stops_past_arm p m n r = past_arm p m n.1 (misses_past n r)

pub arm_of : {from next mid to : List Lexeme} {p : Pattern} {body : Stmt} → IsPattern from next p → IsNext (kind.Mark Colon) next mid → IsSimple mid to body → IsArm from to (record { pattern = p; body = body })
arm_of p next q = one_arm p q

-- what is read from here on is read from the start on behind what there is
pub record StmtsSoFar (start at : List Lexeme) (stmts : List Stmt) : Type 0 where
  pub reads : (to : List Lexeme) (more : List Stmt) → AreStmts at to more → AreStmts start to (stmts ++ more)
  pub stops : (to : List Lexeme) → StmtsStop at to → StmtsStop start to
  pub no_longer : length at ≤ length start

pub record ArmsSoFar (start at : List Lexeme) (arms : List SourceArm) : Type 0 where
  pub reads : (to : List Lexeme) (more : List SourceArm) → AreArms at to more → AreArms start to (arms ++ more)
  pub stops : (to : List Lexeme) → ArmsStop at to → ArmsStop start to
  pub no_longer : length at ≤ length start

pub no_stmts_so_far : {start : List Lexeme} → StmtsSoFar start start []
no_stmts_so_far = record { reads = λ to more p. p; stops = λ to s. s; no_longer = omega arith }

pub no_arms_so_far : {start : List Lexeme} → ArmsSoFar start start []
no_arms_so_far = record { reads = λ to more p. p; stops = λ to s. s; no_longer = omega arith }

reads_last_stmt : {at next to : List Lexeme} {stmt : Stmt} → IsStmt at next stmt → IsNext (kind.Word KwEnd) next to → AreStmts at to (stmt ∷ [])
reads_last_stmt p next = last_stmt p

reads_more_stmts : {at next mid to : List Lexeme} {stmt : Stmt} {stmts : List Stmt} → IsStmt at next stmt → IsNext (kind.Mark Semicolon) next mid → AreStmts mid to stmts → AreStmts at to (stmt ∷ stmts)
reads_more_stmts p next q = more_stmts p q

reads_last_arm : {at next to : List Lexeme} {arm : SourceArm} → IsArm at next arm → IsNext (kind.Word KwEnd) next to → AreArms at to (arm ∷ [])
reads_last_arm p next = last_arm p

reads_more_arms : {at next mid to : List Lexeme} {arm : SourceArm} {arms : List SourceArm} → IsArm at next arm → IsNext (kind.Mark Semicolon) next mid → AreArms mid to arms → AreArms at to (arm ∷ arms)
reads_more_arms p next q = more_arms p q

pub stmts_end : {start at next to : List Lexeme} {stmt : Stmt} {stmts stmts' : List Stmt} → StmtsSoFar start at stmts → IsStmt at next stmt → IsNext (kind.Word KwEnd) next to → stmts' ≡ stmts ++ stmt ∷ [] → AreStmts start to stmts'
stmts_end {start} {to} so p q e = subst (AreStmts start to) (sym e) (so.reads to _ (reads_last_stmt p q))

pub stmts_more : {start at next mid : List Lexeme} {stmt : Stmt} {stmts stmts' : List Stmt} → StmtsSoFar start at stmts → IsStmt at next stmt → length next < length at → IsNext (kind.Mark Semicolon) next mid → stmts' ≡ stmts ++ stmt ∷ [] → StmtsSoFar start mid stmts'
stmts_more {start} {stmt} {stmts} so p n q e = record {
  reads = λ to more r. subst (AreStmts start to) (sym (ap (λ z. z ++ more) e ∙ append_assoc stmts (stmt ∷ []) more)) (so.reads to (stmt ∷ more) (reads_more_stmts p q r));
  stops = λ to s. so.stops to (past_stmts p q s);
  no_longer = omega (arith, so.no_longer, n, next_shorter q);
}

pub stmts_stop : {start at next past to : List Lexeme} {stmt : Stmt} {stmts : List Stmt} → StmtsSoFar start at stmts → IsStmt at next stmt → EndsStmt stmt next → Misses (kind.Word KwEnd) next past → Misses (kind.Mark Semicolon) past to → StmtsStop start to
stmts_stop so p m n r = so.stops _ (stops_past_stmt p m n r)

pub arms_end : {start at next to : List Lexeme} {arm : SourceArm} {arms arms' : List SourceArm} → ArmsSoFar start at arms → IsArm at next arm → IsNext (kind.Word KwEnd) next to → arms' ≡ arms ++ arm ∷ [] → AreArms start to arms'
arms_end {start} {to} so p q e = subst (AreArms start to) (sym e) (so.reads to _ (reads_last_arm p q))

pub arms_more : {start at next mid : List Lexeme} {arm : SourceArm} {arms arms' : List SourceArm} → ArmsSoFar start at arms → IsArm at next arm → length next < length at → IsNext (kind.Mark Semicolon) next mid → arms' ≡ arms ++ arm ∷ [] → ArmsSoFar start mid arms'
arms_more {start} {arm = a} {arms} so p n q e = record {
  reads = λ to more r. subst (AreArms start to) (sym (ap (λ z. z ++ more) e ∙ append_assoc arms (a ∷ []) more)) (so.reads to (a ∷ more) (reads_more_arms p q r));
  stops = λ to s. so.stops to (past_arms p q s);
  no_longer = omega (arith, so.no_longer, n, next_shorter q);
}

pub arms_stop : {start at next past to : List Lexeme} {arm : SourceArm} {arms : List SourceArm} → ArmsSoFar start at arms → IsArm at next arm → EndsStmt arm.body next → Misses (kind.Word KwEnd) next past → Misses (kind.Mark Semicolon) past to → ArmsStop start to
arms_stop so p m n r = so.stops _ (stops_past_arm p m n r)

pub arg_shorter : {from to : List Lexeme} {name : Name} → IsArg from to name → length to < length from
arg_shorter arg = omega arith

pub over_shorter : {from to : List Lexeme} {var source : Name} → IsOver from to var source → length to < length from
over_shorter over = omega arith

mutual
  pub block_shorter : {from to : List Lexeme} {s : List Stmt} → IsBlock from to s → length to < length from
  block_shorter empty_block = omega arith
  block_shorter (full_block p) = omega (arith, stmts_shorter p)

  pub stmts_shorter : {from to : List Lexeme} {s : List Stmt} → AreStmts from to s → length to < length from
  stmts_shorter (last_stmt p) = omega (arith, stmt_shorter p)
  stmts_shorter (more_stmts p ps) = omega (arith, stmt_shorter p, stmts_shorter ps)

  pub stmt_shorter : {from to : List Lexeme} {s : Stmt} → IsStmt from to s → length to < length from
  stmt_shorter (simple_stmt p) = simple_shorter p
  stmt_shorter (case_stmt p) = omega (arith, arms_shorter p)
  stmt_shorter (forall_stmt p) = omega (arith, simple_shorter p)

  pub simple_shorter : {from to : List Lexeme} {s : Stmt} → IsSimple from to s → length to < length from
  simple_shorter (block_stmt p) = block_shorter p
  simple_shorter skip_stmt = omega arith
  simple_shorter charge_stmt = omega arith
  simple_shorter call_stmt = omega arith

  pub arms_shorter : {from to : List Lexeme} {s : List SourceArm} → AreArms from to s → length to < length from
  arms_shorter (last_arm p) = omega (arith, arm_shorter p)
  arms_shorter (more_arms p ps) = omega (arith, arm_shorter p, arms_shorter ps)

  pub arm_shorter : {from to : List Lexeme} {s : SourceArm} → IsArm from to s → length to < length from
  arm_shorter (one_arm p ps) = omega (arith, pattern_shorter p, simple_shorter ps)

pub ruleset statements_steps = (block_of, empty_inside, arg_of, over_of, skip_of, case_of_arms, forall_boxed, ends_boxed, behind_case, behind_forall, behind_neither, stops_forall, stops_neither, inside_past, stops_inside, block_past, stops_block, charge_past, call_past, stops_name, stops_arg, charge_ends_here, stops_past_stmt, stops_past_arm, arm_of, no_stmts_so_far, no_arms_so_far, stmts_end, stmts_more, arms_end, arms_more, block_shorter, stmts_shorter, stmt_shorter, simple_shorter, arms_shorter, arm_shorter, next_past, ends_skip, ends_call, ends_block, ends_case, ends_forall, no_begin, in_block, in_case, simple_inside, in_stmt, in_arm, case_name, case_of, case_arms, forall_over, forall_do, forall_body, no_arg, past_arg, no_var, no_in, no_source, arm_pattern, arm_colon, arm_body)
