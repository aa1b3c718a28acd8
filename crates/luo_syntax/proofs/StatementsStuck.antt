-- Where statements and blocks stop, the prefix before can be gone on with.
use Rattle.std.proofs.Common.{List, [], ◌∷◌, ◌++◌, refl, ap, sym, subst, ◌∙◌}
use Rattle.luo_scan.specs.declared.token.Word.TheVariants.{KwBegin, KwEnd, KwCase, KwOf, KwForall, KwIn, KwDo, KwSkip}
use Rattle.luo_scan.specs.declared.token.Mark.TheVariants.{Semicolon, LeftRound, RightRound, Colon}
use Rattle.luo_scan.specs.declared.token.TokenKind.TheVariants as kind
use Rattle.luo_scan.specs.Lexemes.{Lexeme, lexeme}
use Rattle.luo_source.specs.declared.names.Name.{Name}
use Rattle.luo_source.specs.declared.statements.SourceArm.{SourceArm}
use Rattle.luo_source.specs.declared.statements.Stmt.{Stmt}
use Rattle.luo_source.specs.Ends.{No}
use Rattle.luo_syntax.specs.inner.Next.{next, next_name}
use Rattle.luo_syntax.specs.Viable.{AllSpelled}
use Rattle.luo_source.specs.GrammarStatements.{pattern_named, IsBlock, empty_block, AreStmts, last_stmt, more_stmts, IsStmt, simple_stmt, case_stmt, IsSimple, block_stmt, skip_stmt, AreArms, last_arm, more_arms, IsArm, one_arm}
use Rattle.luo_syntax.specs.inner.StopsPatterns.{PatternEnds}
use Rattle.luo_syntax.specs.inner.StopsStatements.{EndsStmt, no_call, ends_skip, ends_call, ends_block, ends_case, ends_forall, IsInside, stmts_inside, IsBehind, IsArg, arg, IsOver, over, ArgStops, no_arg, past_arg, OverStops, no_var, no_in, no_source, InsideStops, in_inside, StmtsStop, in_stmt, past_stmt, past_stmts, StmtStops, in_simple, in_case, in_forall, CaseStops, case_name, case_of, case_arms, ForallStops, forall_over, forall_do, forall_body, SimpleStops, no_simple, simple_inside, simple_arg, ArmsStop, in_arm, past_arm, past_arms, ArmStops, arm_pattern, arm_colon, arm_body, BlockStops, no_begin, in_block}
use Rattle.luo_syntax.proofs.Prefixes.{Prefix, nothing, put, both, Moves, BeginAlike, begin, Stuck}
use Rattle.luo_syntax.proofs.Nexts.{no_at, no_alike, misses_alike}
use Rattle.luo_syntax.proofs.Spelled.{a_name, a_mark, a_word, name_fit, mark_fit, word_fit}
use Rattle.luo_syntax.proofs.PatternMoves.{pattern_moves, pattern_stuck, pattern_ends_alike}
use Rattle.luo_syntax.proofs.StatementsMoves.{stmt_moves, arm_moves}
use Rattle.luo_syntax.proofs.StatementsSteps.{block_of, call_of, forall_of}

list_alike : (f : List Lexeme) {a b : List Lexeme} → BeginAlike a b → BeginAlike (f ++ a) (f ++ b)
list_alike [] b = b
list_alike (l ∷ ls) b = begin l _ _

-- behind one prefix lists still begin alike
pub prefix_alike : (f : Prefix) {a b : List Lexeme} → BeginAlike a b → BeginAlike (f.before a) (f.before b)
prefix_alike f {a} {b} c = subst (λ z. BeginAlike z (f.before b)) (sym (f.is a)) (subst (λ z. BeginAlike (f.list ++ a) z) (sym (f.is b)) (list_alike f.list c))

pub stmt_ends_alike : {s : Stmt} {a b : List Lexeme} → BeginAlike a b → EndsStmt s a → EndsStmt s b
stmt_ends_alike b (no_call n) = no_call (no_alike b n)
stmt_ends_alike b ends_skip = ends_skip
stmt_ends_alike b ends_call = ends_call
stmt_ends_alike b (ends_block stmts) = ends_block stmts
stmt_ends_alike b (ends_case arms) = ends_case arms
stmt_ends_alike b (ends_forall m) = ends_forall (stmt_ends_alike b m)

-- a whole arm, and no more
abbrev an_arm : List Lexeme → List Lexeme
an_arm to = a_name ∷ a_mark Colon ∷ a_word KwSkip ∷ a_word KwEnd ∷ to

arm_fit : (to : List Lexeme) → AllSpelled to → AllSpelled (an_arm to)
arm_fit to s = (name_fit, (mark_fit Colon, (word_fit KwSkip, (word_fit KwEnd, s))))

pub over_moves : {from to : List Lexeme} {var source : Name} → IsOver from to var source → Moves (λ a b. IsOver a b var source) from to
over_moves (over {text} {b} {source} {at} {k} {source_at}) = record {
  prefix = put (lexeme kind.Name text at) (put (lexeme (kind.Word KwIn) b k) (put (lexeme kind.Name source source_at) nothing));
  cut = refl;
  moves = λ o. over;
}

pub arg_stuck : {from at : List Lexeme} → ArgStops from at → Stuck Name ArgStops IsArg from at
arg_stuck (no_arg m) = record {
  prefix = nothing;
  cut = sym m.0;
  alike = λ o b. no_arg (misses_alike m b);
  goes_on = λ to s. (a_name ∷ a_mark RightRound ∷ to, (name_fit, (mark_fit RightRound, s)), _, arg);
}
arg_stuck (past_arg (next_name {text} {at}) m) = record {
  prefix = put (lexeme kind.Name text at) nothing;
  cut = ap (λ z. lexeme kind.Name text at ∷ z) (sym m.0);
  alike = λ o b. past_arg next_name (misses_alike m b);
  goes_on = λ to s. (a_mark RightRound ∷ to, (mark_fit RightRound, s), _, arg);
}

pub over_stuck : {from at : List Lexeme} → OverStops from at → Stuck (Name × Name) OverStops (λ a b t. IsOver a b t.0 t.1) from at
over_stuck (no_var m) = record {
  prefix = nothing;
  cut = sym m.0;
  alike = λ o b. no_var (misses_alike m b);
  goes_on = λ to s. (a_name ∷ a_word KwIn ∷ a_name ∷ to, (name_fit, (word_fit KwIn, (name_fit, s))), (_, _), over);
}
over_stuck (no_in (next_name {text} {at}) m) = record {
  prefix = put (lexeme kind.Name text at) nothing;
  cut = ap (λ z. lexeme kind.Name text at ∷ z) (sym m.0);
  alike = λ o b. no_in next_name (misses_alike m b);
  goes_on = λ to s. (a_word KwIn ∷ a_name ∷ to, (word_fit KwIn, (name_fit, s)), (_, _), over);
}
over_stuck (no_source (next_name {text} {at}) (next {bytes = c} {at = k}) m) = record {
  prefix = put (lexeme kind.Name text at) (put (lexeme (kind.Word KwIn) c k) nothing);
  cut = ap (λ z. lexeme kind.Name text at ∷ lexeme (kind.Word KwIn) c k ∷ z) (sym m.0);
  alike = λ o b. no_source next_name next (misses_alike m b);
  goes_on = λ to s. (a_name ∷ to, (name_fit, s), (_, _), over);
}

mutual
  pub inside_stuck : {from at : List Lexeme} → InsideStops from at → Stuck (List Stmt) InsideStops IsInside from at
  inside_stuck (in_inside n s) = let k = stmts_stuck s in record {
    prefix = k.prefix;
    cut = k.cut;
    alike = λ o b. in_inside (no_alike (prefix_alike k.prefix b) (subst (No (kind.Word KwEnd)) k.cut n)) (k.alike o b);
    goes_on = λ to s. let g = k.goes_on to s in (g.0, g.1, _, stmts_inside g.3);
  }

  pub stmts_stuck : {from at : List Lexeme} → StmtsStop from at → Stuck (List Stmt) StmtsStop AreStmts from at
  stmts_stuck (in_stmt s) = let k = stmt_stuck s in record {
    prefix = k.prefix;
    cut = k.cut;
    alike = λ o b. in_stmt (k.alike o b);
    goes_on = λ to s. let g = k.goes_on (a_word KwEnd ∷ to) (word_fit KwEnd, s) in (g.0, g.1, _, last_stmt g.3);
  }
  stmts_stuck (past_stmt {stmt} p m n r) = let k = stmt_moves p in record {
    prefix = k.prefix;
    cut = k.cut ∙ ap k.prefix.before (sym r.0);
    alike = λ o b. past_stmt (k.moves o) (stmt_ends_alike b (subst (EndsStmt stmt) (sym r.0) m)) (no_alike b (no_at n r.0)) (misses_alike r b);
    goes_on = λ to s. (a_word KwEnd ∷ to, (word_fit KwEnd, s), _, last_stmt (k.moves _));
  }
  stmts_stuck (past_stmts p (next {bytes = c} {at = l}) s) = let m = stmt_moves p in let k = stmts_stuck s in record {
    prefix = both m.prefix (put (lexeme (kind.Mark Semicolon) c l) k.prefix);
    cut = m.cut ∙ ap (λ z. m.prefix.before (lexeme (kind.Mark Semicolon) c l ∷ z)) k.cut;
    alike = λ o b. past_stmts (m.moves _) next (k.alike o b);
    goes_on = λ to s. let g = k.goes_on to s in (g.0, g.1, _, more_stmts (m.moves _) g.3);
  }

  pub stmt_stuck : {from at : List Lexeme} → StmtStops from at → Stuck Stmt StmtStops IsStmt from at
  stmt_stuck (in_simple c f s) = let k = simple_stuck s in record {
    prefix = k.prefix;
    cut = k.cut;
    alike = λ o b. in_simple (no_alike (prefix_alike k.prefix b) (subst (No (kind.Word KwCase)) k.cut c)) (no_alike (prefix_alike k.prefix b) (subst (No (kind.Word KwForall)) k.cut f)) (k.alike o b);
    goes_on = λ to s. let g = k.goes_on to s in (g.0, g.1, _, simple_stmt g.3);
  }
  stmt_stuck (in_case (next {bytes = c} {at = l}) s) = let k = case_stuck s in record {
    prefix = put (lexeme (kind.Word KwCase) c l) k.prefix;
    cut = ap (λ z. lexeme (kind.Word KwCase) c l ∷ z) k.cut;
    alike = λ o b. in_case next (k.alike o b);
    goes_on = λ to s. let g = k.goes_on to s in (g.0, g.1, _, g.3 _ _);
  }
  stmt_stuck (in_forall (next {bytes = c} {at = l}) s) = let k = forall_stuck s in record {
    prefix = put (lexeme (kind.Word KwForall) c l) k.prefix;
    cut = ap (λ z. lexeme (kind.Word KwForall) c l ∷ z) k.cut;
    alike = λ o b. in_forall next (k.alike o b);
    goes_on = λ to s. let g = k.goes_on to s in (g.0, g.1, _, g.3 _ _);
  }

  pub case_stuck : {from at : List Lexeme} → CaseStops from at → Stuck Stmt CaseStops (IsBehind KwCase) from at
  case_stuck (case_name m) = record {
    prefix = nothing;
    cut = sym m.0;
    alike = λ o b. case_name (misses_alike m b);
    goes_on = λ to s. (a_name ∷ a_word KwOf ∷ an_arm to, (name_fit, (word_fit KwOf, arm_fit to s)), _, λ b k. case_stmt (last_arm (one_arm pattern_named skip_stmt)));
  }
  case_stuck (case_of (next_name {text} {at}) m) = record {
    prefix = put (lexeme kind.Name text at) nothing;
    cut = ap (λ z. lexeme kind.Name text at ∷ z) (sym m.0);
    alike = λ o b. case_of next_name (misses_alike m b);
    goes_on = λ to s. (a_word KwOf ∷ an_arm to, (word_fit KwOf, arm_fit to s), _, λ b k. case_stmt (last_arm (one_arm pattern_named skip_stmt)));
  }
  case_stuck (case_arms (next_name {text} {at}) (next {bytes = c} {at = l}) s) = let k = arms_stuck s in record {
    prefix = put (lexeme kind.Name text at) (put (lexeme (kind.Word KwOf) c l) k.prefix);
    cut = ap (λ z. lexeme kind.Name text at ∷ lexeme (kind.Word KwOf) c l ∷ z) k.cut;
    alike = λ o b. case_arms next_name next (k.alike o b);
    goes_on = λ to s. let g = k.goes_on to s in (g.0, g.1, _, λ b k. case_stmt g.3);
  }

  pub forall_stuck : {from at : List Lexeme} → ForallStops from at → Stuck Stmt ForallStops (IsBehind KwForall) from at
  forall_stuck (forall_over s) = let k = over_stuck s in record {
    prefix = k.prefix;
    cut = k.cut;
    alike = λ o b. forall_over (k.alike o b);
    goes_on = λ to s. let g = k.goes_on (a_word KwDo ∷ a_word KwSkip ∷ to) (word_fit KwDo, (word_fit KwSkip, s)) in (g.0, g.1, _, forall_of g.3 next skip_stmt);
  }
  forall_stuck (forall_do p m) = let k = over_moves p in record {
    prefix = k.prefix;
    cut = k.cut ∙ ap k.prefix.before (sym m.0);
    alike = λ o b. forall_do (k.moves o) (misses_alike m b);
    goes_on = λ to s. (a_word KwDo ∷ a_word KwSkip ∷ to, (word_fit KwDo, (word_fit KwSkip, s)), _, forall_of (k.moves _) next skip_stmt);
  }
  forall_stuck (forall_body p (next {bytes = c} {at = l}) s) = let m = over_moves p in let k = simple_stuck s in record {
    prefix = both m.prefix (put (lexeme (kind.Word KwDo) c l) k.prefix);
    cut = m.cut ∙ ap (λ z. m.prefix.before (lexeme (kind.Word KwDo) c l ∷ z)) k.cut;
    alike = λ o b. forall_body (m.moves _) next (k.alike o b);
    goes_on = λ to s. let g = k.goes_on to s in (g.0, g.1, _, forall_of (m.moves _) next g.3);
  }

  pub simple_stuck : {from at : List Lexeme} → SimpleStops from at → Stuck Stmt SimpleStops IsSimple from at
  simple_stuck (no_simple s e m) = record {
    prefix = nothing;
    cut = sym m.0;
    alike = λ o b. no_simple (no_alike b (no_at s m.0)) (no_alike b (no_at e m.0)) (misses_alike m b);
    goes_on = λ to s. (a_word KwSkip ∷ to, (word_fit KwSkip, s), _, skip_stmt);
  }
  simple_stuck (simple_inside (next {bytes = c} {at = l}) s) = let k = inside_stuck s in record {
    prefix = put (lexeme (kind.Word KwBegin) c l) k.prefix;
    cut = ap (λ z. lexeme (kind.Word KwBegin) c l ∷ z) k.cut;
    alike = λ o b. simple_inside next (k.alike o b);
    goes_on = λ to s. let g = k.goes_on to s in (g.0, g.1, _, block_stmt (block_of next g.3));
  }
  simple_stuck (simple_arg (next_name {text} {at}) (next {bytes = c} {at = l}) s) = let k = arg_stuck s in record {
    prefix = put (lexeme kind.Name text at) (put (lexeme (kind.Mark LeftRound) c l) k.prefix);
    cut = ap (λ z. lexeme kind.Name text at ∷ lexeme (kind.Mark LeftRound) c l ∷ z) k.cut;
    alike = λ o b. simple_arg next_name next (k.alike o b);
    goes_on = λ to s. let g = k.goes_on to s in (g.0, g.1, _, call_of next_name next g.3);
  }

  pub arms_stuck : {from at : List Lexeme} → ArmsStop from at → Stuck (List SourceArm) ArmsStop AreArms from at
  arms_stuck (in_arm s) = let k = arm_stuck s in record {
    prefix = k.prefix;
    cut = k.cut;
    alike = λ o b. in_arm (k.alike o b);
    goes_on = λ to s. let g = k.goes_on (a_word KwEnd ∷ to) (word_fit KwEnd, s) in (g.0, g.1, _, last_arm g.3);
  }
  arms_stuck (past_arm {arm = a} p m n r) = let k = arm_moves p in record {
    prefix = k.prefix;
    cut = k.cut ∙ ap k.prefix.before (sym r.0);
    alike = λ o b. past_arm (k.moves o) (stmt_ends_alike b (subst (EndsStmt a.body) (sym r.0) m)) (no_alike b (no_at n r.0)) (misses_alike r b);
    goes_on = λ to s. (a_word KwEnd ∷ to, (word_fit KwEnd, s), _, last_arm (k.moves _));
  }
  arms_stuck (past_arms p (next {bytes = c} {at = l}) s) = let m = arm_moves p in let k = arms_stuck s in record {
    prefix = both m.prefix (put (lexeme (kind.Mark Semicolon) c l) k.prefix);
    cut = m.cut ∙ ap (λ z. m.prefix.before (lexeme (kind.Mark Semicolon) c l ∷ z)) k.cut;
    alike = λ o b. past_arms (m.moves _) next (k.alike o b);
    goes_on = λ to s. let g = k.goes_on to s in (g.0, g.1, _, more_arms (m.moves _) g.3);
  }

  pub arm_stuck : {from at : List Lexeme} → ArmStops from at → Stuck SourceArm ArmStops IsArm from at
  arm_stuck (arm_pattern s) = let k = pattern_stuck s in record {
    prefix = k.prefix;
    cut = k.cut;
    alike = λ o b. arm_pattern (k.alike o b);
    goes_on = λ to s. let g = k.goes_on (a_mark Colon ∷ a_word KwSkip ∷ to) (mark_fit Colon, (word_fit KwSkip, s)) in (g.0, g.1, _, one_arm g.3 skip_stmt);
  }
  arm_stuck (arm_colon {p = a} p m r) = let k = pattern_moves p in record {
    prefix = k.prefix;
    cut = k.cut ∙ ap k.prefix.before (sym r.0);
    alike = λ o b. arm_colon (k.moves o) (pattern_ends_alike a b (subst (PatternEnds a) (sym r.0) m)) (misses_alike r b);
    goes_on = λ to s. (a_mark Colon ∷ a_word KwSkip ∷ to, (mark_fit Colon, (word_fit KwSkip, s)), _, one_arm (k.moves _) skip_stmt);
  }
  arm_stuck (arm_body p (next {bytes = c} {at = l}) s) = let m = pattern_moves p in let k = simple_stuck s in record {
    prefix = both m.prefix (put (lexeme (kind.Mark Colon) c l) k.prefix);
    cut = m.cut ∙ ap (λ z. m.prefix.before (lexeme (kind.Mark Colon) c l ∷ z)) k.cut;
    alike = λ o b. arm_body (m.moves _) next (k.alike o b);
    goes_on = λ to s. let g = k.goes_on to s in (g.0, g.1, _, one_arm (m.moves _) g.3);
  }

pub block_stuck : {from at : List Lexeme} → BlockStops from at → Stuck (List Stmt) BlockStops IsBlock from at
block_stuck (no_begin m) = record {
  prefix = nothing;
  cut = sym m.0;
  alike = λ o b. no_begin (misses_alike m b);
  goes_on = λ to s. (a_word KwBegin ∷ a_word KwEnd ∷ to, (word_fit KwBegin, (word_fit KwEnd, s)), _, empty_block);
}
block_stuck (in_block (next {bytes = c} {at = l}) s) = let k = inside_stuck s in record {
  prefix = put (lexeme (kind.Word KwBegin) c l) k.prefix;
  cut = ap (λ z. lexeme (kind.Word KwBegin) c l ∷ z) k.cut;
  alike = λ o b. in_block next (k.alike o b);
  goes_on = λ to s. let g = k.goes_on to s in (g.0, g.1, _, block_of next g.3);
}
