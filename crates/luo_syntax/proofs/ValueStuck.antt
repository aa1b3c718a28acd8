-- Where reading a value stops, the prefix before it can be gone on with, and no longer one.
use Rattle.std.proofs.Common.{List, ◌∷◌, refl, ap, sym, subst, ◌∙◌}
use Rattle.luo_scan.specs.declared.token.Word.TheVariants.{KwProduct, KwCase, KwOf, KwEnd}
use Rattle.luo_scan.specs.declared.token.Mark.TheVariants.{Semicolon, Comma, LeftRound, RightRound, Colon}
use Rattle.luo_scan.specs.declared.token.TokenKind.TheVariants as kind
use Rattle.luo_scan.specs.Lexemes.{Lexeme, lexeme}
use Rattle.luo_source.specs.declared.names.Name.{Name}
use Rattle.luo_source.specs.declared.values.SourceValue.{SourceValue}
use Rattle.luo_source.specs.declared.values.SourceValueArm.{SourceValueArm}
use Rattle.luo_source.specs.Ends.{No}
use Rattle.luo_syntax.specs.inner.Next.{next, next_at, next_name, NoNumber}
use Rattle.luo_source.specs.GrammarStatements.{pattern_named}
use Rattle.luo_source.specs.GrammarValues.{IsValue, branch_value, inner_value, branch, IsInner, given, AreParts, last_part, more_parts, AreValueArms, last_value_arm, more_value_arms, IsValueArm, one_value_arm}
use Rattle.luo_syntax.specs.inner.StopsPatterns.{PatternEnds}
use Rattle.luo_syntax.specs.inner.StopsValues.{IsNumbered, numbered, IsBracketed, in_round, IsTuple, parts, IsValueCase, arms_of, IsMade, made_on, InnerEnds, MadeStops, made_name, made_right, ValueStops, in_number, in_inner, NumberedStops, numbered_colon, numbered_inner, InnerStops, no_inner, begun_inner, NoInner, no_value, BegunStops, inner_bracketed, inner_tuple, inner_case, inner_made, BracketedStops, bracketed_number, bracketed_numbered, bracketed_right, TupleStops, tuple_left, tuple_first, tuple_comma, tuple_more, PartsStop, in_part, past_part, past_parts, ValueCaseStops, value_case_name, value_case_of, value_case_arms, ValueArmsStop, in_value_arm, past_value_arm, past_value_arms, ValueArmStops, arm_pattern, arm_colon, arm_value}
use Rattle.luo_syntax.proofs.Prefixes.{nothing, put, both, BeginAlike, Stuck}
use Rattle.luo_syntax.proofs.Nexts.{no_alike, no_number_alike, misses_alike, misses_number_alike}
use Rattle.luo_syntax.proofs.Spelled.{a_name, a_mark, a_word, a_number, name_fit, mark_fit, word_fit, number_fit}
use Rattle.luo_syntax.proofs.PatternMoves.{pattern_moves, pattern_ends_alike, pattern_stuck}
use Rattle.luo_syntax.proofs.ValueMoves.{value_moves, numbered_moves, value_arm_moves, inner_ends_alike, alike_from, whole_moves, whole_arm_moves}
use Rattle.luo_syntax.proofs.ValueSteps.{branch_of, inner_of_bracketed, inner_of_tuple, inner_of_case, inner_of_made}

pub made_stuck : {from at : List Lexeme} → MadeStops from at → Stuck Name MadeStops IsMade from at
made_stuck (made_name m) = record {
  prefix = nothing;
  cut = sym m.0;
  alike = λ o b. made_name (misses_alike m b);
  goes_on = λ to s. (a_name ∷ a_mark RightRound ∷ to, (name_fit, (mark_fit RightRound, s)), _, made_on);
}
made_stuck (made_right (next_name {text} {at = k}) m) = record {
  prefix = put (lexeme kind.Name text k) nothing;
  cut = ap (λ z. lexeme kind.Name text k ∷ z) (sym m.0);
  alike = λ o b. made_right next_name (misses_alike m b);
  goes_on = λ to s. (a_mark RightRound ∷ to, (mark_fit RightRound, s), _, made_on);
}

-- what begins alike begins with the same lexeme
pub no_inner_alike : {a b : List Lexeme} → BeginAlike a b → NoInner a → NoInner b
no_inner_alike b i = (no_alike b i.0, no_alike b i.1, no_alike b i.2, no_alike b i.3, no_alike b i.4)

mutual
  pub value_stuck : {from at : List Lexeme} → ValueStops from at → Stuck SourceValue ValueStops IsValue from at
  value_stuck (in_number {n} (next_at {bytes = b} {at = k}) s) = let m = numbered_stuck s in record {
    prefix = put (lexeme (kind.Number n) b k) m.prefix;
    cut = ap (λ z. lexeme (kind.Number n) b k ∷ z) m.cut;
    alike = λ o a. in_number next_at (m.alike o a);
    goes_on = λ to s. let g = m.goes_on to s in (g.0, g.1, _, branch_value (branch_of g.3));
  }
  value_stuck (no_value e n i) = record {
    prefix = nothing;
    cut = sym e;
    alike = λ o a. no_value refl (no_number_alike a (subst NoNumber (sym e) n)) (no_inner_alike a (subst NoInner (sym e) i));
    goes_on = λ to s. (a_name ∷ to, (name_fit, s), _, inner_value given);
  }
  value_stuck (in_inner s) = let m = begun_stuck s in record {
    prefix = m.prefix;
    cut = m.cut;
    alike = λ o a. in_inner (m.alike o a);
    goes_on = λ to s. let g = m.goes_on to s in (g.0, g.1, _, inner_value g.3);
  }

  pub numbered_stuck : {from at : List Lexeme} → NumberedStops from at → Stuck SourceValue NumberedStops IsNumbered from at
  numbered_stuck (numbered_colon m) = record {
    prefix = nothing;
    cut = sym m.0;
    alike = λ o a. numbered_colon (misses_alike m a);
    goes_on = λ to s. (a_mark Colon ∷ a_name ∷ to, (mark_fit Colon, (name_fit, s)), _, numbered given);
  }
  numbered_stuck (numbered_inner (next {bytes = b} {at = k}) s) = let m = inner_stuck s in record {
    prefix = put (lexeme (kind.Mark Colon) b k) m.prefix;
    cut = ap (λ z. lexeme (kind.Mark Colon) b k ∷ z) m.cut;
    alike = λ o a. numbered_inner next (m.alike o a);
    goes_on = λ to s. let g = m.goes_on to s in (g.0, g.1, _, numbered g.3);
  }

  pub inner_stuck : {from at : List Lexeme} → InnerStops from at → Stuck SourceValue InnerStops IsInner from at
  inner_stuck (no_inner e i) = record {
    prefix = nothing;
    cut = sym e;
    alike = λ o a. no_inner refl (no_inner_alike a (subst NoInner (sym e) i));
    goes_on = λ to s. (a_name ∷ to, (name_fit, s), _, given);
  }
  inner_stuck (begun_inner s) = let m = begun_stuck s in record {
    prefix = m.prefix;
    cut = m.cut;
    alike = λ o a. begun_inner (m.alike o a);
    goes_on = m.goes_on;
  }

  pub begun_stuck : {from at : List Lexeme} → BegunStops from at → Stuck SourceValue BegunStops IsInner from at
  begun_stuck (inner_bracketed (next {bytes = b} {at = k}) s) = let m = bracketed_stuck s in record {
    prefix = put (lexeme (kind.Mark LeftRound) b k) m.prefix;
    cut = ap (λ z. lexeme (kind.Mark LeftRound) b k ∷ z) m.cut;
    alike = λ o a. inner_bracketed next (m.alike o a);
    goes_on = λ to s. let g = m.goes_on to s in (g.0, g.1, _, inner_of_bracketed g.3);
  }
  begun_stuck (inner_tuple (next_at {bytes = b} {at = k}) s) = let m = tuple_stuck s in record {
    prefix = put (lexeme (kind.Word KwProduct) b k) m.prefix;
    cut = ap (λ z. lexeme (kind.Word KwProduct) b k ∷ z) m.cut;
    alike = λ o a. inner_tuple next_at (m.alike o a);
    goes_on = λ to s. let g = m.goes_on to s in (g.0, g.1, _, inner_of_tuple g.3);
  }
  begun_stuck (inner_case (next {bytes = b} {at = k}) s) = let m = value_case_stuck s in record {
    prefix = put (lexeme (kind.Word KwCase) b k) m.prefix;
    cut = ap (λ z. lexeme (kind.Word KwCase) b k ∷ z) m.cut;
    alike = λ o a. inner_case next (m.alike o a);
    goes_on = λ to s. let g = m.goes_on to s in (g.0, g.1, _, inner_of_case g.3);
  }
  begun_stuck (inner_made (next_name {text} {at = i}) (next {bytes = b} {at = k}) s) = let m = made_stuck s in record {
    prefix = put (lexeme kind.Name text i) (put (lexeme (kind.Mark LeftRound) b k) m.prefix);
    cut = ap (λ z. lexeme kind.Name text i ∷ lexeme (kind.Mark LeftRound) b k ∷ z) m.cut;
    alike = λ o a. inner_made next_name next (m.alike o a);
    goes_on = λ to s. let g = m.goes_on to s in (g.0, g.1, _, inner_of_made g.3);
  }

  pub bracketed_stuck : {from at : List Lexeme} → BracketedStops from at → Stuck SourceValue BracketedStops IsBracketed from at
  bracketed_stuck (bracketed_number m) = record {
    prefix = nothing;
    cut = sym m.0;
    alike = λ o a. bracketed_number (misses_number_alike m a);
    goes_on = λ to s. (a_number ∷ a_mark Colon ∷ a_name ∷ a_mark RightRound ∷ to, (number_fit, (mark_fit Colon, (name_fit, (mark_fit RightRound, s)))), _, in_round (branch given));
  }
  bracketed_stuck (bracketed_numbered {n} (next_at {bytes = b} {at = k}) s) = let m = numbered_stuck s in record {
    prefix = put (lexeme (kind.Number n) b k) m.prefix;
    cut = ap (λ z. lexeme (kind.Number n) b k ∷ z) m.cut;
    alike = λ o a. bracketed_numbered next_at (m.alike o a);
    goes_on = λ to s. let g = m.goes_on (a_mark RightRound ∷ to) (mark_fit RightRound, s) in (g.0, g.1, _, in_round (branch_of g.3));
  }
  bracketed_stuck (bracketed_right {n} {v} (next_at {bytes = b} {at = k}) p e f) = let m = numbered_moves p in record {
    prefix = put (lexeme (kind.Number n) b k) m.prefix;
    cut = ap (λ z. lexeme (kind.Number n) b k ∷ z) (m.cut ∙ ap m.prefix.before (sym f.0));
    alike = λ o a. bracketed_right next_at (m.moves o) (inner_ends_alike v a (subst (InnerEnds v) (sym f.0) e)) (misses_alike f a);
    goes_on = λ to s. (a_mark RightRound ∷ to, (mark_fit RightRound, s), _, in_round (branch_of (m.moves _)));
  }

  pub tuple_stuck : {from at : List Lexeme} → TupleStops from at → Stuck (List SourceValue) TupleStops IsTuple from at
  tuple_stuck (tuple_left m) = record {
    prefix = nothing;
    cut = sym m.0;
    alike = λ o a. tuple_left (misses_alike m a);
    goes_on = λ to s. (a_mark LeftRound ∷ a_name ∷ a_mark Comma ∷ a_name ∷ a_mark RightRound ∷ to, (mark_fit LeftRound, (name_fit, (mark_fit Comma, (name_fit, (mark_fit RightRound, s))))), _, parts (inner_value given) (last_part (inner_value given)));
  }
  tuple_stuck (tuple_first (next {bytes = b} {at = k}) s) = let m = value_stuck s in record {
    prefix = put (lexeme (kind.Mark LeftRound) b k) m.prefix;
    cut = ap (λ z. lexeme (kind.Mark LeftRound) b k ∷ z) m.cut;
    alike = λ o a. tuple_first next (m.alike o a);
    goes_on = λ to s. let g = m.goes_on (a_mark Comma ∷ a_name ∷ a_mark RightRound ∷ to) (mark_fit Comma, (name_fit, (mark_fit RightRound, s))) in (g.0, g.1, _, parts g.3 (last_part (inner_value given)));
  }
  tuple_stuck (tuple_comma (next {bytes = b} {at = k}) p f) = let m = whole_moves p in record {
    prefix = put (lexeme (kind.Mark LeftRound) b k) m.prefix;
    cut = ap (λ z. lexeme (kind.Mark LeftRound) b k ∷ z) (m.cut ∙ ap m.prefix.before (sym f.0));
    alike = λ o a. tuple_comma next (m.moves o (alike_from f a)) (misses_alike f a);
    goes_on = λ to s. (a_mark Comma ∷ a_name ∷ a_mark RightRound ∷ to, (mark_fit Comma, (name_fit, (mark_fit RightRound, s))), _, parts (m.reads _) (last_part (inner_value given)));
  }
  tuple_stuck (tuple_more (next {bytes = b} {at = k}) p (next {bytes = c} {at = l}) s) = let m = value_moves p in let n = parts_stuck s in record {
    prefix = put (lexeme (kind.Mark LeftRound) b k) (both m.prefix (put (lexeme (kind.Mark Comma) c l) n.prefix));
    cut = ap (λ z. lexeme (kind.Mark LeftRound) b k ∷ z) (m.cut ∙ ap (λ z. m.prefix.before (lexeme (kind.Mark Comma) c l ∷ z)) n.cut);
    alike = λ o a. tuple_more next (m.moves _) next (n.alike o a);
    goes_on = λ to s. let g = n.goes_on to s in (g.0, g.1, _, parts (m.moves _) g.3);
  }

  pub parts_stuck : {from at : List Lexeme} → PartsStop from at → Stuck (List SourceValue) PartsStop AreParts from at
  parts_stuck (in_part s) = let m = value_stuck s in record {
    prefix = m.prefix;
    cut = m.cut;
    alike = λ o a. in_part (m.alike o a);
    goes_on = λ to s. let g = m.goes_on (a_mark RightRound ∷ to) (mark_fit RightRound, s) in (g.0, g.1, _, last_part g.3);
  }
  parts_stuck (past_part p r f) = let m = whole_moves p in record {
    prefix = m.prefix;
    cut = m.cut ∙ ap m.prefix.before (sym f.0);
    alike = λ o a. past_part (m.moves o (alike_from f a)) (no_alike a (subst (No (kind.Mark RightRound)) (sym f.0) r)) (misses_alike f a);
    goes_on = λ to s. (a_mark RightRound ∷ to, (mark_fit RightRound, s), _, last_part (m.reads _));
  }
  parts_stuck (past_parts p (next {bytes = b} {at = k}) s) = let m = value_moves p in let n = parts_stuck s in record {
    prefix = both m.prefix (put (lexeme (kind.Mark Comma) b k) n.prefix);
    cut = m.cut ∙ ap (λ z. m.prefix.before (lexeme (kind.Mark Comma) b k ∷ z)) n.cut;
    alike = λ o a. past_parts (m.moves _) next (n.alike o a);
    goes_on = λ to s. let g = n.goes_on to s in (g.0, g.1, _, more_parts (m.moves _) g.3);
  }

  pub value_case_stuck : {from at : List Lexeme} → ValueCaseStops from at → Stuck SourceValue ValueCaseStops IsValueCase from at
  value_case_stuck (value_case_name m) = record {
    prefix = nothing;
    cut = sym m.0;
    alike = λ o a. value_case_name (misses_alike m a);
    goes_on = λ to s. (a_name ∷ a_word KwOf ∷ a_name ∷ a_mark Colon ∷ a_name ∷ a_word KwEnd ∷ to, (name_fit, (word_fit KwOf, (name_fit, (mark_fit Colon, (name_fit, (word_fit KwEnd, s)))))), _, arms_of (last_value_arm (one_value_arm pattern_named (inner_value given))));
  }
  value_case_stuck (value_case_of (next_name {text} {at = i}) m) = record {
    prefix = put (lexeme kind.Name text i) nothing;
    cut = ap (λ z. lexeme kind.Name text i ∷ z) (sym m.0);
    alike = λ o a. value_case_of next_name (misses_alike m a);
    goes_on = λ to s. (a_word KwOf ∷ a_name ∷ a_mark Colon ∷ a_name ∷ a_word KwEnd ∷ to, (word_fit KwOf, (name_fit, (mark_fit Colon, (name_fit, (word_fit KwEnd, s))))), _, arms_of (last_value_arm (one_value_arm pattern_named (inner_value given))));
  }
  value_case_stuck (value_case_arms (next_name {text} {at = i}) (next {bytes = b} {at = k}) s) = let m = value_arms_stuck s in record {
    prefix = put (lexeme kind.Name text i) (put (lexeme (kind.Word KwOf) b k) m.prefix);
    cut = ap (λ z. lexeme kind.Name text i ∷ lexeme (kind.Word KwOf) b k ∷ z) m.cut;
    alike = λ o a. value_case_arms next_name next (m.alike o a);
    goes_on = λ to s. let g = m.goes_on to s in (g.0, g.1, _, arms_of g.3);
  }

  pub value_arms_stuck : {from at : List Lexeme} → ValueArmsStop from at → Stuck (List SourceValueArm) ValueArmsStop AreValueArms from at
  value_arms_stuck (in_value_arm s) = let m = value_arm_stuck s in record {
    prefix = m.prefix;
    cut = m.cut;
    alike = λ o a. in_value_arm (m.alike o a);
    goes_on = λ to s. let g = m.goes_on (a_word KwEnd ∷ to) (word_fit KwEnd, s) in (g.0, g.1, _, last_value_arm g.3);
  }
  value_arms_stuck (past_value_arm p r f) = let m = whole_arm_moves p in record {
    prefix = m.prefix;
    cut = m.cut ∙ ap m.prefix.before (sym f.0);
    alike = λ o a. past_value_arm (m.moves o (alike_from f a)) (no_alike a (subst (No (kind.Word KwEnd)) (sym f.0) r)) (misses_alike f a);
    goes_on = λ to s. (a_word KwEnd ∷ to, (word_fit KwEnd, s), _, last_value_arm (m.reads _));
  }
  value_arms_stuck (past_value_arms p (next {bytes = b} {at = k}) s) = let m = value_arm_moves p in let n = value_arms_stuck s in record {
    prefix = both m.prefix (put (lexeme (kind.Mark Semicolon) b k) n.prefix);
    cut = m.cut ∙ ap (λ z. m.prefix.before (lexeme (kind.Mark Semicolon) b k ∷ z)) n.cut;
    alike = λ o a. past_value_arms (m.moves _) next (n.alike o a);
    goes_on = λ to s. let g = n.goes_on to s in (g.0, g.1, _, more_value_arms (m.moves _) g.3);
  }

  pub value_arm_stuck : {from at : List Lexeme} → ValueArmStops from at → Stuck SourceValueArm ValueArmStops IsValueArm from at
  value_arm_stuck (arm_pattern s) = let m = pattern_stuck s in record {
    prefix = m.prefix;
    cut = m.cut;
    alike = λ o a. arm_pattern (m.alike o a);
    goes_on = λ to s. let g = m.goes_on (a_mark Colon ∷ a_name ∷ to) (mark_fit Colon, (name_fit, s)) in (g.0, g.1, _, one_value_arm g.3 (inner_value given));
  }
  value_arm_stuck (arm_colon {p = what} p e f) = let m = pattern_moves p in record {
    prefix = m.prefix;
    cut = m.cut ∙ ap m.prefix.before (sym f.0);
    alike = λ o a. arm_colon (m.moves o) (pattern_ends_alike what a (subst (PatternEnds what) (sym f.0) e)) (misses_alike f a);
    goes_on = λ to s. (a_mark Colon ∷ a_name ∷ to, (mark_fit Colon, (name_fit, s)), _, one_value_arm (m.moves _) (inner_value given));
  }
  value_arm_stuck (arm_value p (next {bytes = b} {at = k}) s) = let m = pattern_moves p in let n = value_stuck s in record {
    prefix = both m.prefix (put (lexeme (kind.Mark Colon) b k) n.prefix);
    cut = m.cut ∙ ap (λ z. m.prefix.before (lexeme (kind.Mark Colon) b k ∷ z)) n.cut;
    alike = λ o a. arm_value (m.moves _) next (n.alike o a);
    goes_on = λ to s. let g = n.goes_on to s in (g.0, g.1, _, one_value_arm (m.moves _) g.3);
  }
