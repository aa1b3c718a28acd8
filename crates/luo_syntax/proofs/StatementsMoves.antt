-- Statements and blocks that are read are so before other lists too.
use Rattle.std.proofs.Common.{List, ◌∷◌, refl, ap, ◌∙◌}
use Rattle.luo_scan.specs.declared.token.Word.TheVariants.{KwBegin, KwEnd, KwCase, KwOf, KwForall, KwIn, KwDo, KwSkip}
use Rattle.luo_scan.specs.declared.token.Mark.TheVariants.{Semicolon, LeftRound, RightRound, Colon}
use Rattle.luo_scan.specs.declared.token.TokenKind.TheVariants as kind
use Rattle.luo_scan.specs.Lexemes.{Lexeme, lexeme}
use Rattle.luo_source.specs.declared.statements.SourceArm.{SourceArm}
use Rattle.luo_source.specs.declared.statements.Stmt.{Stmt}
use Rattle.luo_source.specs.GrammarStatements.{IsBlock, empty_block, full_block, AreStmts, last_stmt, more_stmts, IsStmt, simple_stmt, case_stmt, forall_stmt, IsSimple, block_stmt, skip_stmt, charge_stmt, call_stmt, AreArms, last_arm, more_arms, IsArm, one_arm}
use Rattle.luo_syntax.proofs.Prefixes.{nothing, put, both, Moves}
use Rattle.luo_syntax.proofs.PatternMoves.{pattern_moves}

mutual
  pub block_moves : {from to : List Lexeme} {s : List Stmt} → IsBlock from to s → Moves (λ a b. IsBlock a b s) from to
  block_moves (empty_block {b} {c} {k} {l}) = record { prefix = put (lexeme (kind.Word KwBegin) b k) (put (lexeme (kind.Word KwEnd) c l) nothing); cut = refl; moves = λ o. empty_block }
  block_moves (full_block {b} {k} p) = let m = stmts_moves p in record {
    prefix = put (lexeme (kind.Word KwBegin) b k) m.prefix;
    cut = ap (λ z. lexeme (kind.Word KwBegin) b k ∷ z) m.cut;
    moves = λ o. full_block (m.moves o);
  }

  pub stmts_moves : {from to : List Lexeme} {s : List Stmt} → AreStmts from to s → Moves (λ a b. AreStmts a b s) from to
  stmts_moves (last_stmt {b} {k} p) = let m = stmt_moves p in record {
    prefix = both m.prefix (put (lexeme (kind.Word KwEnd) b k) nothing);
    cut = m.cut;
    moves = λ o. last_stmt (m.moves _);
  }
  stmts_moves (more_stmts {b} {k} p ps) = let m = stmt_moves p in let n = stmts_moves ps in record {
    prefix = both m.prefix (put (lexeme (kind.Mark Semicolon) b k) n.prefix);
    cut = m.cut ∙ ap (λ z. m.prefix.before (lexeme (kind.Mark Semicolon) b k ∷ z)) n.cut;
    moves = λ o. more_stmts (m.moves _) (n.moves o);
  }

  pub stmt_moves : {from to : List Lexeme} {s : Stmt} → IsStmt from to s → Moves (λ a b. IsStmt a b s) from to
  stmt_moves (simple_stmt p) = let m = simple_moves p in record { prefix = m.prefix; cut = m.cut; moves = λ o. simple_stmt (m.moves o) }
  stmt_moves (case_stmt {b} {text} {c} {k} {at} {l} p) = let m = arms_moves p in record {
    prefix = put (lexeme (kind.Word KwCase) b k) (put (lexeme kind.Name text at) (put (lexeme (kind.Word KwOf) c l) m.prefix));
    cut = ap (λ z. lexeme (kind.Word KwCase) b k ∷ lexeme kind.Name text at ∷ lexeme (kind.Word KwOf) c l ∷ z) m.cut;
    moves = λ o. case_stmt (m.moves o);
  }
  stmt_moves (forall_stmt {b} {text} {c} {source} {d} {k} {at} {l} {source_at} {m = n} p) = let m = simple_moves p in record {
    prefix = put (lexeme (kind.Word KwForall) b k) (put (lexeme kind.Name text at) (put (lexeme (kind.Word KwIn) c l) (put (lexeme kind.Name source source_at) (put (lexeme (kind.Word KwDo) d n) m.prefix))));
    cut = ap (λ z. lexeme (kind.Word KwForall) b k ∷ lexeme kind.Name text at ∷ lexeme (kind.Word KwIn) c l ∷ lexeme kind.Name source source_at ∷ lexeme (kind.Word KwDo) d n ∷ z) m.cut;
    moves = λ o. forall_stmt (m.moves o);
  }

  pub simple_moves : {from to : List Lexeme} {s : Stmt} → IsSimple from to s → Moves (λ a b. IsSimple a b s) from to
  simple_moves (block_stmt p) = let m = block_moves p in record { prefix = m.prefix; cut = m.cut; moves = λ o. block_stmt (m.moves o) }
  simple_moves (skip_stmt {b} {k}) = record { prefix = put (lexeme (kind.Word KwSkip) b k) nothing; cut = refl; moves = λ o. skip_stmt }
  simple_moves (charge_stmt {text} {at}) = record { prefix = put (lexeme kind.Name text at) nothing; cut = refl; moves = λ o. charge_stmt }
  simple_moves (call_stmt {text} {b} {arg} {c} {at} {k} {arg_at} {l}) = record {
    prefix = put (lexeme kind.Name text at) (put (lexeme (kind.Mark LeftRound) b k) (put (lexeme kind.Name arg arg_at) (put (lexeme (kind.Mark RightRound) c l) nothing)));
    cut = refl;
    moves = λ o. call_stmt;
  }

  pub arms_moves : {from to : List Lexeme} {s : List SourceArm} → AreArms from to s → Moves (λ a b. AreArms a b s) from to
  arms_moves (last_arm {b} {k} p) = let m = arm_moves p in record {
    prefix = both m.prefix (put (lexeme (kind.Word KwEnd) b k) nothing);
    cut = m.cut;
    moves = λ o. last_arm (m.moves _);
  }
  arms_moves (more_arms {b} {k} p ps) = let m = arm_moves p in let n = arms_moves ps in record {
    prefix = both m.prefix (put (lexeme (kind.Mark Semicolon) b k) n.prefix);
    cut = m.cut ∙ ap (λ z. m.prefix.before (lexeme (kind.Mark Semicolon) b k ∷ z)) n.cut;
    moves = λ o. more_arms (m.moves _) (n.moves o);
  }

  pub arm_moves : {from to : List Lexeme} {s : SourceArm} → IsArm from to s → Moves (λ a b. IsArm a b s) from to
  arm_moves (one_arm {b} {k} p ps) = let m = pattern_moves p in let n = simple_moves ps in record {
    prefix = both m.prefix (put (lexeme (kind.Mark Colon) b k) n.prefix);
    cut = m.cut ∙ ap (λ z. m.prefix.before (lexeme (kind.Mark Colon) b k ∷ z)) n.cut;
    moves = λ o. one_arm (m.moves _) (n.moves o);
  }
