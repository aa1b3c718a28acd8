-- How patterns, statements and blocks are read: from lexemes at hand to lexemes left.
use Rattle.std.specs.Prelude.{ℕ, List, [], ◌∷◌}
use Rattle.luo_scan.specs.declared.token.Word.TheVariants.{KwBegin, KwEnd, KwCase, KwOf, KwForall, KwIn, KwDo, KwSkip, KwAs}
use Rattle.luo_scan.specs.declared.token.Mark.TheVariants.{Semicolon, LeftRound, RightRound, Colon, Underscore}
use Rattle.luo_scan.specs.declared.token.TokenKind.TheVariants as kind
use Rattle.luo_scan.specs.Lexemes.{Lexeme, lexeme}
use Rattle.luo_source.specs.declared.names.Name.{Name}
use Rattle.luo_source.specs.declared.statements.Pattern.{Pattern}
use Rattle.luo_source.specs.declared.statements.Pattern.TheVariants as pattern
use Rattle.luo_source.specs.declared.statements.SourceArm.{SourceArm}
use Rattle.luo_source.specs.declared.statements.Stmt.{Stmt}
use Rattle.luo_source.specs.declared.statements.Stmt.TheVariants.{Skip, Charge, Call, Block, Case, Forall}
use Rattle.luo_source.specs.GrammarTypes.{AreNames}

-- pattern = name | name "as" name | name "(" name {"," name} ")" | "(" name {"," name} ")" | "_" |
-- "_" "as" name
pub data IsPattern : List Lexeme → List Lexeme → Pattern → Type 0 where
  pattern_named : {to : List Lexeme} {text : List ℕ} {at : ℕ}
      → IsPattern (lexeme kind.Name text at ∷ to) to
      (pattern.Named (record { text = text; at = at }))
  pattern_whole : {to : List Lexeme} {text b inner : List ℕ} {at k inner_at : ℕ}
      → IsPattern (lexeme kind.Name text at ∷ lexeme (kind.Word KwAs) b k
      ∷ lexeme kind.Name inner inner_at ∷ to) to
      (pattern.NamedWhole (record { text = text; at = at })
      (record { text = inner; at = inner_at }))
  pattern_named_parts : {from to : List Lexeme} {text b : List ℕ} {at k : ℕ} {names : List Name}
      → AreNames RightRound from to names
      → IsPattern (lexeme kind.Name text at ∷ lexeme (kind.Mark LeftRound) b k ∷ from) to
      (pattern.NamedParts (record { text = text; at = at }) names)
  pattern_parts : {from to : List Lexeme} {b : List ℕ} {at : ℕ} {names : List Name}
      → AreNames RightRound from to names
      → IsPattern (lexeme (kind.Mark LeftRound) b at ∷ from) to (pattern.Parts names at)
  pattern_any : {to : List Lexeme} {b : List ℕ} {at : ℕ}
      → IsPattern (lexeme (kind.Mark Underscore) b at ∷ to) to (pattern.Any at)
  pattern_any_whole : {to : List Lexeme} {b c text : List ℕ} {at k name_at : ℕ}
      → IsPattern (lexeme (kind.Mark Underscore) b at ∷ lexeme (kind.Word KwAs) c k
      ∷ lexeme kind.Name text name_at ∷ to) to
      (pattern.AnyWhole (record { text = text; at = name_at }) at)

mutual
  -- block = "begin" [stmt {";" stmt}] "end"
  pub data IsBlock : List Lexeme → List Lexeme → List Stmt → Type 0 where
    empty_block : {to : List Lexeme} {b c : List ℕ} {k l : ℕ}
        → IsBlock (lexeme (kind.Word KwBegin) b k ∷ lexeme (kind.Word KwEnd) c l ∷ to) to []
    full_block : {from to : List Lexeme} {b : List ℕ} {k : ℕ} {stmts : List Stmt}
        → AreStmts from to stmts → IsBlock (lexeme (kind.Word KwBegin) b k ∷ from) to stmts

  -- stmt {";" stmt} "end"
  pub data AreStmts : List Lexeme → List Lexeme → List Stmt → Type 0 where
    last_stmt : {from to : List Lexeme} {b : List ℕ} {k : ℕ} {stmt : Stmt}
        → IsStmt from (lexeme (kind.Word KwEnd) b k ∷ to) stmt → AreStmts from to (stmt ∷ [])
    more_stmts : {from mid to : List Lexeme} {b : List ℕ} {k : ℕ} {stmt : Stmt} {stmts : List Stmt}
        → IsStmt from (lexeme (kind.Mark Semicolon) b k ∷ mid) stmt → AreStmts mid to stmts
        → AreStmts from to (stmt ∷ stmts)

  -- stmt = simple | "case" name "of" arm {";" arm} "end" | "forall" name "in" name "do" simple
  pub data IsStmt : List Lexeme → List Lexeme → Stmt → Type 0 where
    simple_stmt : {from to : List Lexeme} {stmt : Stmt} → IsSimple from to stmt
        → IsStmt from to stmt
    case_stmt : {from to : List Lexeme} {b text c : List ℕ} {k at l : ℕ} {arms : List SourceArm}
        → AreArms from to arms
        → IsStmt (lexeme (kind.Word KwCase) b k ∷ lexeme kind.Name text at ∷ lexeme
        (kind.Word KwOf) c l ∷ from) to (Case (record { text = text; at = at }) arms)
    forall_stmt : {from to : List Lexeme} {b text c source d : List ℕ} {k at l source_at m : ℕ}
        {body : Stmt} → IsSimple from to body
        → IsStmt (lexeme (kind.Word KwForall) b k ∷ lexeme kind.Name text at ∷ lexeme
        (kind.Word KwIn) c l ∷ lexeme kind.Name source source_at ∷ lexeme (kind.Word KwDo) d m
        ∷ from) to (Forall (record { text = text; at = at })
        (record { text = source; at = source_at }) body)

  -- simple = block | "skip" | name | name "(" name ")"
  pub data IsSimple : List Lexeme → List Lexeme → Stmt → Type 0 where
    block_stmt : {from to : List Lexeme} {stmts : List Stmt} → IsBlock from to stmts
        → IsSimple from to (Block stmts)
    skip_stmt : {to : List Lexeme} {b : List ℕ} {k : ℕ}
        → IsSimple (lexeme (kind.Word KwSkip) b k ∷ to) to Skip
    charge_stmt : {to : List Lexeme} {text : List ℕ} {at : ℕ}
        → IsSimple (lexeme kind.Name text at ∷ to) to (Charge (record { text = text; at = at }))
    call_stmt : {to : List Lexeme} {text b arg c : List ℕ} {at k arg_at l : ℕ}
        → IsSimple (lexeme kind.Name text at ∷ lexeme (kind.Mark LeftRound) b k
        ∷ lexeme kind.Name arg arg_at ∷ lexeme (kind.Mark RightRound) c l ∷ to) to
        (Call (record { text = text; at = at }) (record { text = arg; at = arg_at }))

  -- arm {";" arm} "end"
  pub data AreArms : List Lexeme → List Lexeme → List SourceArm → Type 0 where
    last_arm : {from to : List Lexeme} {b : List ℕ} {k : ℕ} {arm : SourceArm}
        → IsArm from (lexeme (kind.Word KwEnd) b k ∷ to) arm → AreArms from to (arm ∷ [])
    more_arms : {from mid to : List Lexeme} {b : List ℕ} {k : ℕ} {arm : SourceArm}
        {arms : List SourceArm} → IsArm from (lexeme (kind.Mark Semicolon) b k ∷ mid) arm
        → AreArms mid to arms → AreArms from to (arm ∷ arms)

  -- arm = pattern ":" simple
  pub data IsArm : List Lexeme → List Lexeme → SourceArm → Type 0 where
    one_arm : {from mid to : List Lexeme} {b : List ℕ} {k : ℕ} {p : Pattern} {body : Stmt}
        → IsPattern from (lexeme (kind.Mark Colon) b k ∷ mid) p → IsSimple mid to body
        → IsArm from to (record { pattern = p; body = body })
