-- Where reading statements and blocks stops.
use Rattle.std.specs.Prelude.{ℕ, List, [], ◌∷◌}
use Rattle.luo_scan.specs.declared.token.Word.{Word}
use Rattle.luo_scan.specs.declared.token.Word.TheVariants.{KwBegin, KwEnd, KwCase, KwOf, KwForall, KwIn, KwDo, KwSkip}
use Rattle.luo_scan.specs.declared.token.Mark.TheVariants.{Semicolon, LeftRound, RightRound, Colon}
use Rattle.luo_scan.specs.declared.token.TokenKind.TheVariants as kind
use Rattle.luo_scan.specs.Lexemes.{Lexeme, lexeme}
use Rattle.luo_source.specs.declared.names.Name.{Name}
use Rattle.luo_source.specs.declared.statements.Pattern.{Pattern}
use Rattle.luo_source.specs.declared.statements.SourceArm.{SourceArm}
use Rattle.luo_source.specs.declared.statements.Stmt.{Stmt}
use Rattle.luo_source.specs.declared.statements.Stmt.TheVariants.{Skip, Call, Block, Case, Forall}
use Rattle.luo_source.specs.Ends.{No, EndsSimple}
use Rattle.luo_syntax.specs.inner.Next.{IsNext, IsName, Misses, MissesName}
use Rattle.luo_source.specs.GrammarStatements.{IsPattern, AreStmts, IsStmt, IsArm}
use Rattle.luo_syntax.specs.inner.StopsPatterns.{PatternEnds, PatternStops}

-- what follows makes no call of this statement: no `(` comes next, or the statement doesn't end
-- with a lone name
pub data EndsStmt : Stmt → List Lexeme → Type 0 where
  no_call : {stmt : Stmt} {ls : List Lexeme} → EndsSimple ls → EndsStmt stmt ls
  ends_skip : {ls : List Lexeme} → EndsStmt Skip ls
  ends_call : {ls : List Lexeme} {callee arg : Name} → EndsStmt (Call callee arg) ls
  ends_block : {ls : List Lexeme} (stmts : List Stmt) → EndsStmt (Block stmts) ls
  ends_case : {ls : List Lexeme} {var : Name} (arms : List SourceArm) → EndsStmt (Case var arms) ls
  ends_forall : {ls : List Lexeme} {var source : Name} {body : Stmt} → EndsStmt body ls
      → EndsStmt (Forall var source body) ls

-- [stmt {";" stmt}] "end"
pub data IsInside : List Lexeme → List Lexeme → List Stmt → Type 0 where
  nothing_inside : {to : List Lexeme} {b : List ℕ} {k : ℕ}
      → IsInside (lexeme (kind.Word KwEnd) b k ∷ to) to []
  stmts_inside : {from to : List Lexeme} {stmts : List Stmt} → AreStmts from to stmts
      → IsInside from to stmts

-- after this word the rest of this statement is read
abbrev pub IsBehind : Word → List Lexeme → List Lexeme → Stmt → Type 0
IsBehind word from to stmt =
    (bytes : List ℕ) (at : ℕ) → IsStmt (lexeme (kind.Word word) bytes at ∷ from) to stmt

-- name ")"
pub data IsArg : List Lexeme → List Lexeme → Name → Type 0 where
  arg : {to : List Lexeme} {text b : List ℕ} {at k : ℕ}
      → IsArg (lexeme kind.Name text at ∷ lexeme (kind.Mark RightRound) b k ∷ to) to
      (record { text = text; at = at })

-- name "in" name
pub data IsOver : List Lexeme → List Lexeme → Name → Name → Type 0 where
  over : {to : List Lexeme} {text b source : List ℕ} {at k source_at : ℕ}
      → IsOver (lexeme kind.Name text at ∷ lexeme (kind.Word KwIn) b k
      ∷ lexeme kind.Name source source_at ∷ to) to (record { text = text; at = at })
      (record { text = source; at = source_at })

-- name ")" is being read from these lexemes, and can't go on at those
pub data ArgStops : List Lexeme → List Lexeme → Type 0 where
  no_arg : {from at : List Lexeme} → MissesName from at → ArgStops from at
  past_arg : {from next at : List Lexeme} {name : Name} → IsName from next name
      → Misses (kind.Mark RightRound) next at → ArgStops from at

-- name "in" name
pub data OverStops : List Lexeme → List Lexeme → Type 0 where
  no_var : {from at : List Lexeme} → MissesName from at → OverStops from at
  no_in : {from next at : List Lexeme} {name : Name} → IsName from next name
      → Misses (kind.Word KwIn) next at → OverStops from at
  no_source : {from next mid at : List Lexeme} {name : Name} → IsName from next name
      → IsNext (kind.Word KwIn) next mid → MissesName mid at → OverStops from at

mutual
  -- [stmt {";" stmt}] "end"
  pub data InsideStops : List Lexeme → List Lexeme → Type 0 where
    in_inside : {from at : List Lexeme} → No (kind.Word KwEnd) from → StmtsStop from at
        → InsideStops from at

  -- stmt {";" stmt} "end"
  pub data StmtsStop : List Lexeme → List Lexeme → Type 0 where
    in_stmt : {from at : List Lexeme} → StmtStops from at → StmtsStop from at
    past_stmt : {from next at : List Lexeme} {stmt : Stmt} → IsStmt from next stmt
        → EndsStmt stmt next → No (kind.Word KwEnd) next → Misses (kind.Mark Semicolon) next at
        → StmtsStop from at
    past_stmts : {from next mid at : List Lexeme} {stmt : Stmt} → IsStmt from next stmt
        → IsNext (kind.Mark Semicolon) next mid → StmtsStop mid at → StmtsStop from at

  -- simple | "case" name "of" arm {";" arm} "end" | "forall" name "in" name "do" simple
  pub data StmtStops : List Lexeme → List Lexeme → Type 0 where
    in_simple : {from at : List Lexeme} → No (kind.Word KwCase) from → No (kind.Word KwForall) from
        → SimpleStops from at → StmtStops from at
    in_case : {from mid at : List Lexeme} → IsNext (kind.Word KwCase) from mid → CaseStops mid at
        → StmtStops from at
    in_forall : {from mid at : List Lexeme} → IsNext (kind.Word KwForall) from mid
        → ForallStops mid at → StmtStops from at

  -- name "of" arm {";" arm} "end"
  pub data CaseStops : List Lexeme → List Lexeme → Type 0 where
    case_name : {from at : List Lexeme} → MissesName from at → CaseStops from at
    case_of : {from next at : List Lexeme} {name : Name} → IsName from next name
        → Misses (kind.Word KwOf) next at → CaseStops from at
    case_arms : {from next mid at : List Lexeme} {name : Name} → IsName from next name
        → IsNext (kind.Word KwOf) next mid → ArmsStop mid at → CaseStops from at

  -- name "in" name "do" simple
  pub data ForallStops : List Lexeme → List Lexeme → Type 0 where
    forall_over : {from at : List Lexeme} → OverStops from at → ForallStops from at
    forall_do : {from next at : List Lexeme} {var source : Name} → IsOver from next var source
        → Misses (kind.Word KwDo) next at → ForallStops from at
    forall_body : {from next mid at : List Lexeme} {var source : Name} → IsOver from next var source
        → IsNext (kind.Word KwDo) next mid → SimpleStops mid at → ForallStops from at

  -- block | "skip" | name | name "(" name ")"
  pub data SimpleStops : List Lexeme → List Lexeme → Type 0 where
    no_simple : {from at : List Lexeme} → No (kind.Word KwSkip) from → No (kind.Word KwBegin) from
        → MissesName from at → SimpleStops from at
    simple_inside : {from mid at : List Lexeme} → IsNext (kind.Word KwBegin) from mid
        → InsideStops mid at → SimpleStops from at
    simple_arg : {from next mid at : List Lexeme} {name : Name} → IsName from next name
        → IsNext (kind.Mark LeftRound) next mid → ArgStops mid at → SimpleStops from at

  -- arm {";" arm} "end"
  pub data ArmsStop : List Lexeme → List Lexeme → Type 0 where
    in_arm : {from at : List Lexeme} → ArmStops from at → ArmsStop from at
    past_arm : {from next at : List Lexeme} {arm : SourceArm} → IsArm from next arm
        → EndsStmt arm.body next → No (kind.Word KwEnd) next → Misses (kind.Mark Semicolon) next at
        → ArmsStop from at
    past_arms : {from next mid at : List Lexeme} {arm : SourceArm} → IsArm from next arm
        → IsNext (kind.Mark Semicolon) next mid → ArmsStop mid at → ArmsStop from at

  -- pattern ":" simple
  pub data ArmStops : List Lexeme → List Lexeme → Type 0 where
    arm_pattern : {from at : List Lexeme} → PatternStops from at → ArmStops from at
    arm_colon : {from next at : List Lexeme} {p : Pattern} → IsPattern from next p
        → PatternEnds p next → Misses (kind.Mark Colon) next at → ArmStops from at
    arm_body : {from next mid at : List Lexeme} {p : Pattern} → IsPattern from next p
        → IsNext (kind.Mark Colon) next mid → SimpleStops mid at → ArmStops from at

-- "begin" [stmt {";" stmt}] "end"
pub data BlockStops : List Lexeme → List Lexeme → Type 0 where
  no_begin : {from at : List Lexeme} → Misses (kind.Word KwBegin) from at → BlockStops from at
  in_block : {from mid at : List Lexeme} → IsNext (kind.Word KwBegin) from mid → InsideStops mid at
      → BlockStops from at
