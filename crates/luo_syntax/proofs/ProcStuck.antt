-- Procedures and analyses that stop do so before other lists too, and can be gone on with up to there.
use Rattle.std.proofs.Common.{◌≡◌, ℕ, List, ◌∷◌, ap, sym, subst, ◌∙◌}
use Rattle.luo_scan.specs.declared.token.Word.TheVariants.{KwProcedure, KwAnalyze, KwBegin, KwEnd}
use Rattle.luo_scan.specs.declared.token.Mark.TheVariants.{Semicolon, Colon, LeftRound, RightRound}
use Rattle.luo_scan.specs.declared.token.TokenKind.TheVariants as kind
use Rattle.luo_scan.specs.Lexemes.{Lexeme, lexeme}
use Rattle.luo_source.specs.declared.names.Name.{Name}
use Rattle.luo_source.specs.declared.values.SourceValue.{SourceValue}
use Rattle.luo_source.specs.declared.source.ProcBody.{ProcBody}
use Rattle.luo_source.specs.declared.source.ProcDef.{ProcDef}
use Rattle.luo_source.specs.Ends.{No}
use Rattle.luo_syntax.specs.inner.Next.{IsNext, next, next_at, IsName, next_name}
use Rattle.luo_source.specs.Grammar.{IsProcBody, statements_body, value_body, IsProc, proc, IsAnalyze, analyze}
use Rattle.luo_source.specs.GrammarStatements.{empty_block}
use Rattle.luo_source.specs.GrammarValues.{inner_value, given}
use Rattle.luo_syntax.specs.inner.StopsProgram.{IsParam, one_param, ParamStops, no_left, no_param, no_colon, no_on, no_right, IsResult, one_result, ResultStops, no_result, past_result, in_value, past_value, IsWholeBody, whole_statements, whole_value, BodyStops, no_body, in_block, past_block, in_result, ProcStops, no_procedure, no_proc_name, in_param, in_body, AnalyzeStops, no_analyze, no_analyze_name, no_analyze_end}
use Rattle.luo_syntax.proofs.Prefixes.{nothing, put, both, BeginAlike, Stuck}
use Rattle.luo_source.proofs.Behind.{behind}
use Rattle.luo_syntax.proofs.Nexts.{no_alike, misses_alike}
use Rattle.luo_syntax.proofs.Spelled.{a_name, a_mark, a_word, name_fit, mark_fit, word_fit}
use Rattle.luo_source.proofs.OneStatements.{block_one}
use Rattle.luo_syntax.proofs.ProcMoves.{param_moves}
use Rattle.luo_syntax.proofs.StatementsMoves.{block_moves}
use Rattle.luo_syntax.proofs.StatementsStuck.{block_stuck}
use Rattle.luo_syntax.proofs.StatementsNo.{block_no}
use Rattle.luo_syntax.proofs.ValueMoves.{whole_moves}
use Rattle.luo_syntax.proofs.ValueStuck.{value_stuck}
use Rattle.luo_syntax.proofs.ValueNo.{value_no, value_meets}

pub param_stuck : {from at : List Lexeme} → ParamStops from at → Stuck (Name × Name) ParamStops IsParam from at
param_stuck (no_left m) = record {
  prefix = nothing;
  cut = sym m.0;
  alike = λ o b. no_left (misses_alike m b);
  goes_on = λ to s. (a_mark LeftRound ∷ a_name ∷ a_mark Colon ∷ a_name ∷ a_mark RightRound ∷ to, (mark_fit LeftRound, (name_fit, (mark_fit Colon, (name_fit, (mark_fit RightRound, s))))), _, one_param next next_name next next_name next);
}
param_stuck (no_param (next {bytes = b} {at = k}) m) = record {
  prefix = put (lexeme (kind.Mark LeftRound) b k) nothing;
  cut = ap (λ z. lexeme (kind.Mark LeftRound) b k ∷ z) (sym m.0);
  alike = λ o t. no_param next (misses_alike m t);
  goes_on = λ to s. (a_name ∷ a_mark Colon ∷ a_name ∷ a_mark RightRound ∷ to, (name_fit, (mark_fit Colon, (name_fit, (mark_fit RightRound, s)))), _, one_param next next_name next next_name next);
}
param_stuck (no_colon (next {bytes = b} {at = k}) (next_name {text} {at}) m) = record {
  prefix = put (lexeme (kind.Mark LeftRound) b k) (put (lexeme kind.Name text at) nothing);
  cut = ap (λ z. lexeme (kind.Mark LeftRound) b k ∷ lexeme kind.Name text at ∷ z) (sym m.0);
  alike = λ o t. no_colon next next_name (misses_alike m t);
  goes_on = λ to s. (a_mark Colon ∷ a_name ∷ a_mark RightRound ∷ to, (mark_fit Colon, (name_fit, (mark_fit RightRound, s))), _, one_param next next_name next next_name next);
}
param_stuck (no_on (next {bytes = b} {at = k}) (next_name {text} {at}) (next {bytes = c} {at = l}) m) = record {
  prefix = put (lexeme (kind.Mark LeftRound) b k) (put (lexeme kind.Name text at) (put (lexeme (kind.Mark Colon) c l) nothing));
  cut = ap (λ z. lexeme (kind.Mark LeftRound) b k ∷ lexeme kind.Name text at ∷ lexeme (kind.Mark Colon) c l ∷ z) (sym m.0);
  alike = λ o t. no_on next next_name next (misses_alike m t);
  goes_on = λ to s. (a_name ∷ a_mark RightRound ∷ to, (name_fit, (mark_fit RightRound, s)), _, one_param next next_name next next_name next);
}
param_stuck (no_right (next {bytes = b} {at = k}) (next_name {text} {at}) (next {bytes = c} {at = l}) (next_name {text = on} {at = on_at}) m) = record {
  prefix = put (lexeme (kind.Mark LeftRound) b k) (put (lexeme kind.Name text at) (put (lexeme (kind.Mark Colon) c l) (put (lexeme kind.Name on on_at) nothing)));
  cut = ap (λ z. lexeme (kind.Mark LeftRound) b k ∷ lexeme kind.Name text at ∷ lexeme (kind.Mark Colon) c l ∷ lexeme kind.Name on on_at ∷ z) (sym m.0);
  alike = λ o t. no_right next next_name next next_name (misses_alike m t);
  goes_on = λ to s. (a_mark RightRound ∷ to, (mark_fit RightRound, s), _, one_param next next_name next next_name next);
}

pub param_no : {from from' at to : List Lexeme} {p : Name × Name} → ParamStops from at → IsParam from' to p → from ≡ from' → ⊥
param_no (no_left m) (one_param next next_name next next_name next) e = m.1 _ _ _ e
param_no (no_param next m) (one_param next next_name next next_name next) e = m.1 _ _ _ (behind e)
param_no (no_colon next next_name m) (one_param next next_name next next_name next) e = m.1 _ _ _ (behind (behind e))
param_no (no_on next next_name next m) (one_param next next_name next next_name next) e = m.1 _ _ _ (behind (behind (behind e)))
param_no (no_right next next_name next next_name m) (one_param next next_name next next_name next) e = m.1 _ _ _ (behind (behind (behind (behind e))))

pub result_stuck : {from at : List Lexeme} → ResultStops from at → Stuck (Name × SourceValue) ResultStops IsResult from at
result_stuck (no_result m) = record {
  prefix = nothing;
  cut = sym m.0;
  alike = λ o t. no_result (misses_alike m t);
  goes_on = λ to s. (a_name ∷ a_mark Semicolon ∷ a_name ∷ a_mark Semicolon ∷ to, (name_fit, (mark_fit Semicolon, (name_fit, (mark_fit Semicolon, s)))), _, one_result next_name next (inner_value given) next);
}
result_stuck (past_result (next_name {text} {at}) m) = record {
  prefix = put (lexeme kind.Name text at) nothing;
  cut = ap (λ z. lexeme kind.Name text at ∷ z) (sym m.0);
  alike = λ o t. past_result next_name (misses_alike m t);
  goes_on = λ to s. (a_mark Semicolon ∷ a_name ∷ a_mark Semicolon ∷ to, (mark_fit Semicolon, (name_fit, (mark_fit Semicolon, s))), _, one_result next_name next (inner_value given) next);
}
result_stuck (in_value (next_name {text} {at}) (next {bytes = b} {at = k}) s) = let v = value_stuck s in record {
  prefix = put (lexeme kind.Name text at) (put (lexeme (kind.Mark Semicolon) b k) v.prefix);
  cut = ap (λ z. lexeme kind.Name text at ∷ lexeme (kind.Mark Semicolon) b k ∷ z) v.cut;
  alike = λ o t. in_value next_name next (v.alike o t);
  goes_on = λ to f. let g = v.goes_on (a_mark Semicolon ∷ to) (mark_fit Semicolon, f) in (g.0, g.1, _, one_result next_name next g.3 next);
}
result_stuck (past_value (next_name {text} {at}) (next {bytes = b} {at = k}) p m) = let v = whole_moves p in record {
  prefix = put (lexeme kind.Name text at) (put (lexeme (kind.Mark Semicolon) b k) v.prefix);
  cut = ap (λ z. lexeme kind.Name text at ∷ lexeme (kind.Mark Semicolon) b k ∷ z) (v.cut ∙ ap v.prefix.before (sym m.0));
  alike = λ o t. past_value next_name next (v.moves o (subst (λ z. BeginAlike z o) m.0 t)) (misses_alike m t);
  goes_on = λ to f. (a_mark Semicolon ∷ to, (mark_fit Semicolon, f), _, one_result next_name next (v.reads _) next);
}

pub result_no : {from from' at to : List Lexeme} {r : Name × SourceValue} → ResultStops from at → IsResult from' to r → from ≡ from' → ⊥
result_no (no_result m) (one_result next_name next q next) e = m.1 _ _ _ e
result_no (past_result next_name m) (one_result next_name next q next) e = m.1 _ _ _ (behind e)
result_no (in_value next_name next s) (one_result next_name next q next) e = value_no s q (behind (behind e)) (λ bytes at rest f. cc, λ bytes at rest f. cc)
result_no (past_value next_name next p m) (one_result next_name next q next) e = m.1 _ _ _ (value_meets p q (λ bytes at rest f. cc, λ bytes at rest f. cc) (behind (behind e))).0

pub body_stuck : {from at : List Lexeme} → BodyStops from at → Stuck ProcBody BodyStops IsWholeBody from at
body_stuck (no_body m n) = record {
  prefix = nothing;
  cut = sym m.0;
  alike = λ o t. no_body (misses_alike m t) (no_alike t (subst (No (kind.Mark Colon)) (sym m.0) n));
  goes_on = λ to s. (a_mark Semicolon ∷ a_word KwBegin ∷ a_word KwEnd ∷ a_mark Semicolon ∷ to, (mark_fit Semicolon, (word_fit KwBegin, (word_fit KwEnd, (mark_fit Semicolon, s)))), _, whole_statements next empty_block next);
}
body_stuck (in_block (next {bytes = b} {at = k}) s) = let v = block_stuck s in record {
  prefix = put (lexeme (kind.Mark Semicolon) b k) v.prefix;
  cut = ap (λ z. lexeme (kind.Mark Semicolon) b k ∷ z) v.cut;
  alike = λ o t. in_block next (v.alike o t);
  goes_on = λ to f. let g = v.goes_on (a_mark Semicolon ∷ to) (mark_fit Semicolon, f) in (g.0, g.1, _, whole_statements next g.3 next);
}
body_stuck (past_block (next {bytes = b} {at = k}) p m) = let v = block_moves p in record {
  prefix = put (lexeme (kind.Mark Semicolon) b k) v.prefix;
  cut = ap (λ z. lexeme (kind.Mark Semicolon) b k ∷ z) (v.cut ∙ ap v.prefix.before (sym m.0));
  alike = λ o t. past_block next (v.moves o) (misses_alike m t);
  goes_on = λ to f. (a_mark Semicolon ∷ to, (mark_fit Semicolon, f), _, whole_statements next (v.moves _) next);
}
body_stuck (in_result (next {bytes = b} {at = k}) s) = let v = result_stuck s in record {
  prefix = put (lexeme (kind.Mark Colon) b k) v.prefix;
  cut = ap (λ z. lexeme (kind.Mark Colon) b k ∷ z) v.cut;
  alike = λ o t. in_result next (v.alike o t);
  goes_on = λ to f. let g = v.goes_on to f in (g.0, g.1, _, whole_value next_at g.3);
}

pub body_no : {from from' at to : List Lexeme} {b : ProcBody} → BodyStops from at → IsWholeBody from' to b → from ≡ from' → ⊥
body_no (no_body m n) (whole_statements next q next) e = m.1 _ _ _ e
body_no (no_body m n) (whole_value next_at q) e = n _ _ _ e
body_no (in_block next s) (whole_statements next q next) e = block_no s q (behind e)
body_no (in_block next s) (whole_value next_at q) e = cc
body_no (past_block next p m) (whole_statements next q next) e = m.1 _ _ _ (block_one p q (behind e)).0
body_no (past_block next p m) (whole_value next_at q) e = cc
body_no (in_result next s) (whole_statements next q next) e = cc
body_no (in_result next s) (whole_value next_at q) e = result_no s q (behind e)

-- a procedure, by its parts

pub reads_proc : {from a b c to : List Lexeme} {name : Name} {param : Name × Name} {body : ProcBody} → IsNext (kind.Word KwProcedure) from a → IsName a b name → IsParam b c param → IsWholeBody c to body → IsProc from to (record { name = name; param = param.0; on = param.1; body = body })
reads_proc next next_name (one_param next next_name next next_name next) (whole_statements next q next) = proc (statements_body q)
reads_proc next next_name (one_param next next_name next next_name next) (whole_value next_at (one_result next_name next q next)) = proc (value_body q)

whole : {from to : List Lexeme} {b : List ℕ} {k : ℕ} {body : ProcBody} → IsProcBody from (lexeme (kind.Mark Semicolon) b k ∷ to) body → IsWholeBody from to body
whole (statements_body p) = whole_statements next p next
whole (value_body p) = whole_value next_at (one_result next_name next p next)

pub proc_stuck : {from at : List Lexeme} → ProcStops from at → Stuck ProcDef ProcStops IsProc from at
proc_stuck (no_procedure m) = record {
  prefix = nothing;
  cut = sym m.0;
  alike = λ o t. no_procedure (misses_alike m t);
  goes_on = λ to s. (
    a_word KwProcedure ∷ a_name ∷ a_mark LeftRound ∷ a_name ∷ a_mark Colon ∷ a_name ∷ a_mark RightRound ∷ a_mark Semicolon ∷ a_word KwBegin ∷ a_word KwEnd ∷ a_mark Semicolon ∷ to,
    (word_fit KwProcedure, (name_fit, (mark_fit LeftRound, (name_fit, (mark_fit Colon, (name_fit, (mark_fit RightRound, (mark_fit Semicolon, (word_fit KwBegin, (word_fit KwEnd, (mark_fit Semicolon, s))))))))))),
    _,
    proc (statements_body empty_block),
  );
}
proc_stuck (no_proc_name (next {bytes = b} {at = k}) m) = record {
  prefix = put (lexeme (kind.Word KwProcedure) b k) nothing;
  cut = ap (λ z. lexeme (kind.Word KwProcedure) b k ∷ z) (sym m.0);
  alike = λ o t. no_proc_name next (misses_alike m t);
  goes_on = λ to s. (
    a_name ∷ a_mark LeftRound ∷ a_name ∷ a_mark Colon ∷ a_name ∷ a_mark RightRound ∷ a_mark Semicolon ∷ a_word KwBegin ∷ a_word KwEnd ∷ a_mark Semicolon ∷ to,
    (name_fit, (mark_fit LeftRound, (name_fit, (mark_fit Colon, (name_fit, (mark_fit RightRound, (mark_fit Semicolon, (word_fit KwBegin, (word_fit KwEnd, (mark_fit Semicolon, s)))))))))),
    _,
    proc (statements_body empty_block),
  );
}
proc_stuck (in_param (next {bytes = b} {at = k}) (next_name {text} {at}) s) = let v = param_stuck s in record {
  prefix = put (lexeme (kind.Word KwProcedure) b k) (put (lexeme kind.Name text at) v.prefix);
  cut = ap (λ z. lexeme (kind.Word KwProcedure) b k ∷ lexeme kind.Name text at ∷ z) v.cut;
  alike = λ o t. in_param next next_name (v.alike o t);
  goes_on = λ to f. let g = v.goes_on (a_mark Semicolon ∷ a_word KwBegin ∷ a_word KwEnd ∷ a_mark Semicolon ∷ to) (mark_fit Semicolon, (word_fit KwBegin, (word_fit KwEnd, (mark_fit Semicolon, f)))) in
      (g.0, g.1, _, reads_proc next next_name g.3 (whole_statements next empty_block next));
}
proc_stuck (in_body (next {bytes = b} {at = k}) (next_name {text} {at}) p s) = let m = param_moves p in let v = body_stuck s in record {
  prefix = put (lexeme (kind.Word KwProcedure) b k) (put (lexeme kind.Name text at) (both m.prefix v.prefix));
  cut = ap (λ z. lexeme (kind.Word KwProcedure) b k ∷ lexeme kind.Name text at ∷ z) (m.cut ∙ ap m.prefix.before v.cut);
  alike = λ o t. in_body next next_name (m.moves _) (v.alike o t);
  goes_on = λ to f. let g = v.goes_on to f in (g.0, g.1, _, reads_proc next next_name (m.moves _) g.3);
}

pub proc_no : {from from' at to : List Lexeme} {p : ProcDef} → ProcStops from at → IsProc from' to p → from ≡ from' → ⊥
proc_no (no_procedure m) (proc q) e = m.1 _ _ _ e
proc_no (no_proc_name next m) (proc q) e = m.1 _ _ _ (behind e)
proc_no (in_param next next_name s) (proc q) e = param_no s (one_param next next_name next next_name next) (behind (behind e))
proc_no (in_body next next_name (one_param next next_name next next_name next) s) (proc q) e = body_no s (whole q) (behind (behind (behind (behind (behind (behind (behind e)))))))

pub reads_analyze : {from a b to : List Lexeme} {name : Name} → IsNext (kind.Word KwAnalyze) from a → IsName a b name → IsNext (kind.Mark Semicolon) b to → IsAnalyze from to name
reads_analyze next next_name next = analyze

pub analyze_stuck : {from at : List Lexeme} → AnalyzeStops from at → Stuck Name AnalyzeStops IsAnalyze from at
analyze_stuck (no_analyze m) = record {
  prefix = nothing;
  cut = sym m.0;
  alike = λ o t. no_analyze (misses_alike m t);
  goes_on = λ to s. (a_word KwAnalyze ∷ a_name ∷ a_mark Semicolon ∷ to, (word_fit KwAnalyze, (name_fit, (mark_fit Semicolon, s))), _, analyze);
}
analyze_stuck (no_analyze_name (next {bytes = b} {at = k}) m) = record {
  prefix = put (lexeme (kind.Word KwAnalyze) b k) nothing;
  cut = ap (λ z. lexeme (kind.Word KwAnalyze) b k ∷ z) (sym m.0);
  alike = λ o t. no_analyze_name next (misses_alike m t);
  goes_on = λ to s. (a_name ∷ a_mark Semicolon ∷ to, (name_fit, (mark_fit Semicolon, s)), _, analyze);
}
analyze_stuck (no_analyze_end (next {bytes = b} {at = k}) (next_name {text} {at}) m) = record {
  prefix = put (lexeme (kind.Word KwAnalyze) b k) (put (lexeme kind.Name text at) nothing);
  cut = ap (λ z. lexeme (kind.Word KwAnalyze) b k ∷ lexeme kind.Name text at ∷ z) (sym m.0);
  alike = λ o t. no_analyze_end next next_name (misses_alike m t);
  goes_on = λ to s. (a_mark Semicolon ∷ to, (mark_fit Semicolon, s), _, analyze);
}

pub analyze_no : {from from' at to : List Lexeme} {name : Name} → AnalyzeStops from at → IsAnalyze from' to name → from ≡ from' → ⊥
analyze_no (no_analyze m) analyze e = m.1 _ _ _ e
analyze_no (no_analyze_name next m) analyze e = m.1 _ _ _ (behind e)
analyze_no (no_analyze_end next next_name m) analyze e = m.1 _ _ _ (behind (behind e))
