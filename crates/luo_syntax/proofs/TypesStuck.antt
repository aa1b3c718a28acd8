-- Where reading type expressions and definitions stops, the prefix before it can be gone on with.
use Rattle.std.proofs.Common.{ℕ, Option, Some, List, ◌∷◌, refl, ap, sym, subst, ◌∙◌}
use Rattle.luo_scan.specs.declared.token.Word.{Word}
use Rattle.luo_scan.specs.declared.token.Word.TheVariants.{KwEpsilon, KwAtom, KwProduct, KwCard, KwIn, KwType, KwMeasure}
use Rattle.luo_scan.specs.declared.token.Mark.TheVariants.{Semicolon, Comma, Equals, Bar, LeftRound, RightRound, LessEqual, GreaterEqual, Dots, Colon}
use Rattle.luo_scan.specs.declared.token.TokenKind.TheVariants as kind
use Rattle.luo_scan.specs.Lexemes.{Lexeme, lexeme}
use Rattle.luo_model.specs.declared.program.Kind.{Kind}
use Rattle.luo_source.specs.declared.types.Range.{Range}
use Rattle.luo_source.specs.declared.types.Bound.{Bound}
use Rattle.luo_source.specs.declared.types.TypeExpr.{TypeExpr}
use Rattle.luo_source.specs.declared.types.TypeDef.{TypeDef}
use Rattle.luo_source.specs.declared.types.MeasureDef.{MeasureDef}
use Rattle.luo_source.specs.Ends.{No, EndsExpr}
use Rattle.luo_syntax.specs.inner.Next.{next, next_at}
use Rattle.luo_source.specs.GrammarTypes.{IsRange, exactly, at_most, at_least, between, IsCollection, EndsCollection, unbounded, bounded, IsExpr, one_term, union, AreTerms, last_term, more_terms, IsTerm, epsilon, atom, product, collection, AreFactors, last_factor, more_factors, IsTypeDef, type_def, IsMeasure, measure_def, last_name}
use Rattle.luo_syntax.specs.inner.TypeParts.{MissesCollection, collection_next, IsBetween, limits, IsBound, a_bound, IsWeight, weight, AreParts, parts, IsInside, inside}
use Rattle.luo_syntax.specs.inner.StopsTypes.{BetweenStops, low_number, between_dots, high_number, RangeStops, no_range, exactly_number, at_most_number, at_least_number, in_between, BoundStops, bound_card, bound_range, bound_right, EndStops, no_end, in_bound, AtomStops, atom_left, atom_number, atom_right, TermsStop, in_term, past_bar, TermStops, no_term, in_atom, in_product, in_collection, ProductStops, product_left, product_first, product_comma, product_more, FactorsStop, in_factor, past_factor, past_comma, CollectionStops, collection_left, collection_part, collection_end, TypeDefStops, no_type, type_names, type_body, type_end, MeasureStops, no_measure, measure_names, measure_number, measure_end}
use Rattle.luo_syntax.proofs.Prefixes.{nothing, put, both, BeginAlike, Stuck}
use Rattle.luo_syntax.proofs.Nexts.{no_alike, misses_alike, misses_number_alike}
use Rattle.luo_syntax.proofs.Spelled.{a_word, a_mark, a_name, a_number, word_fit, mark_fit, name_fit, number_fit}
use Rattle.luo_syntax.proofs.NamesMoves.{names_moves, names_stuck}
use Rattle.luo_syntax.proofs.TypesMoves.{range_moves, expr_moves, term_moves}

ranges : {from to : List Lexeme} {b : List ℕ} {k : ℕ} {r : Range} → IsBetween from to r → IsRange (lexeme (kind.Word KwIn) b k ∷ from) to r
ranges limits = between

bounds : {from to : List Lexeme} {b : List ℕ} {k : ℕ} {r : Bound} → IsBound from to r → EndsCollection (lexeme (kind.Mark Comma) b k ∷ from) to (Some r)
bounds (a_bound p) = bounded p

weighs : {from to : List Lexeme} {b : List ℕ} {k : ℕ} {w : ℕ × ℕ} → IsWeight from to w → (t : TypeExpr) × IsTerm (lexeme (kind.Word KwAtom) b k ∷ from) to t
weighs weight = (_, atom)

multiplies : {from to : List Lexeme} {b : List ℕ} {k : ℕ} {ts : List TypeExpr} → AreParts from to ts → (t : TypeExpr) × IsTerm (lexeme (kind.Word KwProduct) b k ∷ from) to t
multiplies (parts p ps) = (_, product p ps)

collects : {word : Word} {of : Kind} {from to : List Lexeme} {b : List ℕ} {k : ℕ} {t : TypeExpr} → IsCollection word of → IsInside of k from to t → IsTerm (lexeme (kind.Word word) b k ∷ from) to t
collects w (inside p x) = collection w p x

pub terms_expr : {from to : List Lexeme} {ts : List TypeExpr} → AreTerms from to ts → (t : TypeExpr) × IsExpr from to t
terms_expr (last_term p) = (_, one_term p)
terms_expr (more_terms p ps) = (_, union p ps)

between_stuck : {from at : List Lexeme} → BetweenStops from at → Stuck Range BetweenStops IsBetween from at
between_stuck (low_number m) = record {
  prefix = nothing;
  cut = sym m.0;
  alike = λ o b. low_number (misses_number_alike m b);
  goes_on = λ to s. (a_number ∷ a_mark Dots ∷ a_number ∷ to, (number_fit, (mark_fit Dots, (number_fit, s))), _, limits);
}
between_stuck (between_dots {low} (next {bytes = c} {at = k}) m) = record {
  prefix = put (lexeme (kind.Number low) c k) nothing;
  cut = ap (λ z. lexeme (kind.Number low) c k ∷ z) (sym m.0);
  alike = λ o b. between_dots next (misses_alike m b);
  goes_on = λ to s. (a_mark Dots ∷ a_number ∷ to, (mark_fit Dots, (number_fit, s)), _, limits);
}
between_stuck (high_number {low} (next {bytes = c} {at = k}) (next {bytes = d} {at = l}) m) = record {
  prefix = put (lexeme (kind.Number low) c k) (put (lexeme (kind.Mark Dots) d l) nothing);
  cut = ap (λ z. lexeme (kind.Number low) c k ∷ lexeme (kind.Mark Dots) d l ∷ z) (sym m.0);
  alike = λ o b. high_number next next (misses_number_alike m b);
  goes_on = λ to s. (a_number ∷ to, (number_fit, s), _, limits);
}

pub range_stuck : {from at : List Lexeme} → RangeStops from at → Stuck Range RangeStops IsRange from at
range_stuck (no_range e l g i) = record {
  prefix = nothing;
  cut = sym e.0;
  alike = λ o b. no_range (misses_alike e b) (misses_alike l b) (misses_alike g b) (misses_alike i b);
  goes_on = λ to s. (a_mark Equals ∷ a_number ∷ to, (mark_fit Equals, (number_fit, s)), _, exactly);
}
range_stuck (exactly_number (next {bytes = c} {at = k}) m) = record {
  prefix = put (lexeme (kind.Mark Equals) c k) nothing;
  cut = ap (λ z. lexeme (kind.Mark Equals) c k ∷ z) (sym m.0);
  alike = λ o b. exactly_number next (misses_number_alike m b);
  goes_on = λ to s. (a_number ∷ to, (number_fit, s), _, exactly);
}
range_stuck (at_most_number (next {bytes = c} {at = k}) m) = record {
  prefix = put (lexeme (kind.Mark LessEqual) c k) nothing;
  cut = ap (λ z. lexeme (kind.Mark LessEqual) c k ∷ z) (sym m.0);
  alike = λ o b. at_most_number next (misses_number_alike m b);
  goes_on = λ to s. (a_number ∷ to, (number_fit, s), _, at_most);
}
range_stuck (at_least_number (next {bytes = c} {at = k}) m) = record {
  prefix = put (lexeme (kind.Mark GreaterEqual) c k) nothing;
  cut = ap (λ z. lexeme (kind.Mark GreaterEqual) c k ∷ z) (sym m.0);
  alike = λ o b. at_least_number next (misses_number_alike m b);
  goes_on = λ to s. (a_number ∷ to, (number_fit, s), _, at_least);
}
range_stuck (in_between (next {bytes = c} {at = k}) s) = let m = between_stuck s in record {
  prefix = put (lexeme (kind.Word KwIn) c k) m.prefix;
  cut = ap (λ z. lexeme (kind.Word KwIn) c k ∷ z) m.cut;
  alike = λ o b. in_between next (m.alike o b);
  goes_on = λ to s. let g = m.goes_on to s in (g.0, g.1, _, ranges g.3);
}

bound_stuck : {from at : List Lexeme} → BoundStops from at → Stuck Bound BoundStops IsBound from at
bound_stuck (bound_card m) = record {
  prefix = nothing;
  cut = sym m.0;
  alike = λ o b. bound_card (misses_alike m b);
  goes_on = λ to s. (a_word KwCard ∷ a_mark Equals ∷ a_number ∷ a_mark RightRound ∷ to, (word_fit KwCard, (mark_fit Equals, (number_fit, (mark_fit RightRound, s)))), _, a_bound exactly);
}
bound_stuck (bound_range (next {bytes = c} {at = k}) s) = let m = range_stuck s in record {
  prefix = put (lexeme (kind.Word KwCard) c k) m.prefix;
  cut = ap (λ z. lexeme (kind.Word KwCard) c k ∷ z) m.cut;
  alike = λ o b. bound_range next (m.alike o b);
  goes_on = λ to s. let g = m.goes_on (a_mark RightRound ∷ to) (mark_fit RightRound, s) in (g.0, g.1, _, a_bound g.3);
}
bound_stuck (bound_right (next {bytes = c} {at = k}) p n) = let m = range_moves p in record {
  prefix = put (lexeme (kind.Word KwCard) c k) m.prefix;
  cut = ap (λ z. lexeme (kind.Word KwCard) c k ∷ z) (m.cut ∙ ap m.prefix.before (sym n.0));
  alike = λ o b. bound_right next (m.moves o) (misses_alike n b);
  goes_on = λ to s. (a_mark RightRound ∷ to, (mark_fit RightRound, s), _, a_bound (m.moves _));
}

-- behind a type expression that isn't gone on with
end_stuck : {from at : List Lexeme} → EndsExpr from → EndStops from at → Stuck (Option Bound) (λ a b. EndsExpr a × EndStops a b) EndsCollection from at
end_stuck n (no_end c r) = record {
  prefix = nothing;
  cut = sym c.0;
  alike = λ o b. (no_alike b (subst (No (kind.Mark Bar)) (sym c.0) n), no_end (misses_alike c b) (misses_alike r b));
  goes_on = λ to s. (a_mark RightRound ∷ to, (mark_fit RightRound, s), _, unbounded);
}
end_stuck n (in_bound (next {bytes = c} {at = k}) s) = let m = bound_stuck s in record {
  prefix = put (lexeme (kind.Mark Comma) c k) m.prefix;
  cut = ap (λ z. lexeme (kind.Mark Comma) c k ∷ z) m.cut;
  alike = λ o b. (λ bytes at rest f. cc, in_bound next (m.alike o b));
  goes_on = λ to s. let g = m.goes_on to s in (g.0, g.1, _, bounds g.3);
}

atom_stuck : {from at : List Lexeme} → AtomStops from at → Stuck (ℕ × ℕ) AtomStops IsWeight from at
atom_stuck (atom_left m) = record {
  prefix = nothing;
  cut = sym m.0;
  alike = λ o b. atom_left (misses_alike m b);
  goes_on = λ to s. (a_mark LeftRound ∷ a_number ∷ a_mark RightRound ∷ to, (mark_fit LeftRound, (number_fit, (mark_fit RightRound, s))), _, weight);
}
atom_stuck (atom_number (next {bytes = c} {at = k}) m) = record {
  prefix = put (lexeme (kind.Mark LeftRound) c k) nothing;
  cut = ap (λ z. lexeme (kind.Mark LeftRound) c k ∷ z) (sym m.0);
  alike = λ o b. atom_number next (misses_number_alike m b);
  goes_on = λ to s. (a_number ∷ a_mark RightRound ∷ to, (number_fit, (mark_fit RightRound, s)), _, weight);
}
atom_stuck (atom_right {n} (next {bytes = c} {at = k}) (next {bytes = d} {at = l}) m) = record {
  prefix = put (lexeme (kind.Mark LeftRound) c k) (put (lexeme (kind.Number n) d l) nothing);
  cut = ap (λ z. lexeme (kind.Mark LeftRound) c k ∷ lexeme (kind.Number n) d l ∷ z) (sym m.0);
  alike = λ o b. atom_right next next (misses_alike m b);
  goes_on = λ to s. (a_mark RightRound ∷ to, (mark_fit RightRound, s), _, weight);
}

collection_alike : {from at other : List Lexeme} → MissesCollection from at → BeginAlike at other → MissesCollection other other
collection_alike m b = (refl, λ w of c. no_alike b (subst (No (kind.Word w)) (sym m.0) (m.1 w of c)))

mutual
  pub terms_stuck : {from at : List Lexeme} → TermsStop from at → Stuck (List TypeExpr) TermsStop AreTerms from at
  terms_stuck (in_term s) = let m = term_stuck s in record {
    prefix = m.prefix;
    cut = m.cut;
    alike = λ o b. in_term (m.alike o b);
    goes_on = λ to s. let g = m.goes_on to s in (g.0, g.1, _, last_term g.3);
  }
  terms_stuck (past_bar p (next {bytes = c} {at = k}) s) = let m = term_moves p in let n = terms_stuck s in record {
    prefix = both m.prefix (put (lexeme (kind.Mark Bar) c k) n.prefix);
    cut = m.cut ∙ ap (λ z. m.prefix.before (lexeme (kind.Mark Bar) c k ∷ z)) n.cut;
    alike = λ o b. past_bar (m.moves (lexeme (kind.Mark Bar) c k ∷ n.prefix.before o)) next (n.alike o b);
    goes_on = λ to s. let g = n.goes_on to s in (g.0, g.1, _, more_terms (m.moves _) g.3);
  }

  pub term_stuck : {from at : List Lexeme} → TermStops from at → Stuck TypeExpr TermStops IsTerm from at
  term_stuck (no_term n e a p c) = record {
    prefix = nothing;
    cut = sym n.0;
    alike = λ o b. no_term (misses_alike n b) (misses_alike e b) (misses_alike a b) (misses_alike p b) (collection_alike c b);
    goes_on = λ to s. (a_word KwEpsilon ∷ to, (word_fit KwEpsilon, s), _, epsilon);
  }
  term_stuck (in_atom (next {bytes = c} {at = k}) s) = let m = atom_stuck s in record {
    prefix = put (lexeme (kind.Word KwAtom) c k) m.prefix;
    cut = ap (λ z. lexeme (kind.Word KwAtom) c k ∷ z) m.cut;
    alike = λ o b. in_atom next (m.alike o b);
    goes_on = λ to s. let g = m.goes_on to s in let t = weighs g.3 in (g.0, g.1, t.0, t.1);
  }
  term_stuck (in_product (next {bytes = c} {at = k}) s) = let m = product_stuck s in record {
    prefix = put (lexeme (kind.Word KwProduct) c k) m.prefix;
    cut = ap (λ z. lexeme (kind.Word KwProduct) c k ∷ z) m.cut;
    alike = λ o b. in_product next (m.alike o b);
    goes_on = λ to s. let g = m.goes_on to s in let t = multiplies g.3 in (g.0, g.1, t.0, t.1);
  }
  term_stuck (in_collection (collection_next {word} {of} w (next_at {bytes = c} {at = k})) s) = let m = collection_stuck of k s in record {
    prefix = put (lexeme (kind.Word word) c k) m.prefix;
    cut = ap (λ z. lexeme (kind.Word word) c k ∷ z) m.cut;
    alike = λ o b. in_collection (collection_next w next_at) (m.alike o b);
    goes_on = λ to s. let g = m.goes_on to s in (g.0, g.1, _, collects w g.3);
  }

  product_stuck : {from at : List Lexeme} → ProductStops from at → Stuck (List TypeExpr) ProductStops AreParts from at
  product_stuck (product_left m) = record {
    prefix = nothing;
    cut = sym m.0;
    alike = λ o b. product_left (misses_alike m b);
    goes_on = λ to s. (a_mark LeftRound ∷ a_word KwEpsilon ∷ a_mark Comma ∷ a_word KwEpsilon ∷ a_mark RightRound ∷ to, (mark_fit LeftRound, (word_fit KwEpsilon, (mark_fit Comma, (word_fit KwEpsilon, (mark_fit RightRound, s))))), _, parts (one_term epsilon) (last_factor (one_term epsilon)));
  }
  product_stuck (product_first (next {bytes = c} {at = k}) s) = let m = terms_stuck s in record {
    prefix = put (lexeme (kind.Mark LeftRound) c k) m.prefix;
    cut = ap (λ z. lexeme (kind.Mark LeftRound) c k ∷ z) m.cut;
    alike = λ o b. product_first next (m.alike o b);
    goes_on = λ to s. let g = m.goes_on (a_mark Comma ∷ a_word KwEpsilon ∷ a_mark RightRound ∷ to) (mark_fit Comma, (word_fit KwEpsilon, (mark_fit RightRound, s))) in (g.0, g.1, _, parts (terms_expr g.3).1 (last_factor (one_term epsilon)));
  }
  product_stuck (product_comma (next {bytes = c} {at = k}) p n f) = let m = expr_moves p in record {
    prefix = put (lexeme (kind.Mark LeftRound) c k) m.prefix;
    cut = ap (λ z. lexeme (kind.Mark LeftRound) c k ∷ z) (m.cut ∙ ap m.prefix.before (sym f.0));
    alike = λ o b. product_comma next (m.moves o) (no_alike b (subst (No (kind.Mark Bar)) (sym f.0) n)) (misses_alike f b);
    goes_on = λ to s. (a_mark Comma ∷ a_word KwEpsilon ∷ a_mark RightRound ∷ to, (mark_fit Comma, (word_fit KwEpsilon, (mark_fit RightRound, s))), _, parts (m.moves _) (last_factor (one_term epsilon)));
  }
  product_stuck (product_more (next {bytes = c} {at = k}) p (next {bytes = d} {at = l}) s) = let m = expr_moves p in let n = factors_stuck s in record {
    prefix = put (lexeme (kind.Mark LeftRound) c k) (both m.prefix (put (lexeme (kind.Mark Comma) d l) n.prefix));
    cut = ap (λ z. lexeme (kind.Mark LeftRound) c k ∷ z) (m.cut ∙ ap (λ z. m.prefix.before (lexeme (kind.Mark Comma) d l ∷ z)) n.cut);
    alike = λ o b. product_more next (m.moves (lexeme (kind.Mark Comma) d l ∷ n.prefix.before o)) next (n.alike o b);
    goes_on = λ to s. let g = n.goes_on to s in (g.0, g.1, _, parts (m.moves _) g.3);
  }

  pub factors_stuck : {from at : List Lexeme} → FactorsStop from at → Stuck (List TypeExpr) FactorsStop AreFactors from at
  factors_stuck (in_factor s) = let m = terms_stuck s in record {
    prefix = m.prefix;
    cut = m.cut;
    alike = λ o b. in_factor (m.alike o b);
    goes_on = λ to s. let g = m.goes_on (a_mark RightRound ∷ to) (mark_fit RightRound, s) in (g.0, g.1, _, last_factor (terms_expr g.3).1);
  }
  factors_stuck (past_factor p n r f) = let m = expr_moves p in record {
    prefix = m.prefix;
    cut = m.cut ∙ ap m.prefix.before (sym f.0);
    alike = λ o b. past_factor (m.moves o) (no_alike b (subst (No (kind.Mark Bar)) (sym f.0) n)) (no_alike b (subst (No (kind.Mark RightRound)) (sym f.0) r)) (misses_alike f b);
    goes_on = λ to s. (a_mark RightRound ∷ to, (mark_fit RightRound, s), _, last_factor (m.moves _));
  }
  factors_stuck (past_comma p (next {bytes = c} {at = k}) s) = let m = expr_moves p in let n = factors_stuck s in record {
    prefix = both m.prefix (put (lexeme (kind.Mark Comma) c k) n.prefix);
    cut = m.cut ∙ ap (λ z. m.prefix.before (lexeme (kind.Mark Comma) c k ∷ z)) n.cut;
    alike = λ o b. past_comma (m.moves (lexeme (kind.Mark Comma) c k ∷ n.prefix.before o)) next (n.alike o b);
    goes_on = λ to s. let g = n.goes_on to s in (g.0, g.1, _, more_factors (m.moves _) g.3);
  }

  collection_stuck : {from at : List Lexeme} (of : Kind) (number : ℕ) → CollectionStops from at → Stuck TypeExpr CollectionStops (IsInside of number) from at
  collection_stuck of number (collection_left m) = record {
    prefix = nothing;
    cut = sym m.0;
    alike = λ o b. collection_left (misses_alike m b);
    goes_on = λ to s. (a_mark LeftRound ∷ a_word KwEpsilon ∷ a_mark RightRound ∷ to, (mark_fit LeftRound, (word_fit KwEpsilon, (mark_fit RightRound, s))), _, inside (one_term epsilon) unbounded);
  }
  collection_stuck of number (collection_part (next {bytes = c} {at = k}) s) = let m = terms_stuck s in record {
    prefix = put (lexeme (kind.Mark LeftRound) c k) m.prefix;
    cut = ap (λ z. lexeme (kind.Mark LeftRound) c k ∷ z) m.cut;
    alike = λ o b. collection_part next (m.alike o b);
    goes_on = λ to s. let g = m.goes_on (a_mark RightRound ∷ to) (mark_fit RightRound, s) in (g.0, g.1, _, inside (terms_expr g.3).1 unbounded);
  }
  collection_stuck of number (collection_end (next {bytes = c} {at = k}) p n s) = let m = expr_moves p in let x = end_stuck n s in record {
    prefix = put (lexeme (kind.Mark LeftRound) c k) (both m.prefix x.prefix);
    cut = ap (λ z. lexeme (kind.Mark LeftRound) c k ∷ z) (m.cut ∙ ap m.prefix.before x.cut);
    alike = λ o b. let a = x.alike o b in collection_end next (m.moves (x.prefix.before o)) a.0 a.1;
    goes_on = λ to s. let g = x.goes_on to s in (g.0, g.1, _, inside (m.moves _) g.3);
  }

pub type_def_stuck : {from at : List Lexeme} → TypeDefStops from at → Stuck TypeDef TypeDefStops IsTypeDef from at
type_def_stuck (no_type m) = record {
  prefix = nothing;
  cut = sym m.0;
  alike = λ o b. no_type (misses_alike m b);
  goes_on = λ to s. (a_word KwType ∷ a_name ∷ a_mark Equals ∷ a_word KwEpsilon ∷ a_mark Semicolon ∷ to, (word_fit KwType, (name_fit, (mark_fit Equals, (word_fit KwEpsilon, (mark_fit Semicolon, s))))), _, type_def last_name (one_term epsilon));
}
type_def_stuck (type_names (next {bytes = c} {at = k}) s) = let m = names_stuck s in record {
  prefix = put (lexeme (kind.Word KwType) c k) m.prefix;
  cut = ap (λ z. lexeme (kind.Word KwType) c k ∷ z) m.cut;
  alike = λ o b. type_names next (m.alike o b);
  goes_on = λ to s. let g = m.goes_on (a_word KwEpsilon ∷ a_mark Semicolon ∷ to) (word_fit KwEpsilon, (mark_fit Semicolon, s)) in (g.0, g.1, _, type_def g.3 (one_term epsilon));
}
type_def_stuck (type_body (next {bytes = c} {at = k}) p s) = let m = names_moves p in let n = terms_stuck s in record {
  prefix = put (lexeme (kind.Word KwType) c k) (both m.prefix n.prefix);
  cut = ap (λ z. lexeme (kind.Word KwType) c k ∷ z) (m.cut ∙ ap m.prefix.before n.cut);
  alike = λ o b. type_body next (m.moves (n.prefix.before o)) (n.alike o b);
  goes_on = λ to s. let g = n.goes_on (a_mark Semicolon ∷ to) (mark_fit Semicolon, s) in (g.0, g.1, _, type_def (m.moves _) (terms_expr g.3).1);
}
type_def_stuck (type_end (next {bytes = c} {at = k}) p q n f) = let m = names_moves p in let x = expr_moves q in record {
  prefix = put (lexeme (kind.Word KwType) c k) (both m.prefix x.prefix);
  cut = ap (λ z. lexeme (kind.Word KwType) c k ∷ z) (m.cut ∙ ap m.prefix.before (x.cut ∙ ap x.prefix.before (sym f.0)));
  alike = λ o b. type_end next (m.moves (x.prefix.before o)) (x.moves o) (no_alike b (subst (No (kind.Mark Bar)) (sym f.0) n)) (misses_alike f b);
  goes_on = λ to s. (a_mark Semicolon ∷ to, (mark_fit Semicolon, s), _, type_def (m.moves _) (x.moves _));
}

pub measure_stuck : {from at : List Lexeme} → MeasureStops from at → Stuck MeasureDef MeasureStops IsMeasure from at
measure_stuck (no_measure m) = record {
  prefix = nothing;
  cut = sym m.0;
  alike = λ o b. no_measure (misses_alike m b);
  goes_on = λ to s. (a_word KwMeasure ∷ a_name ∷ a_mark Colon ∷ a_number ∷ a_mark Semicolon ∷ to, (word_fit KwMeasure, (name_fit, (mark_fit Colon, (number_fit, (mark_fit Semicolon, s))))), _, measure_def last_name);
}
measure_stuck (measure_names (next {bytes = c} {at = k}) s) = let m = names_stuck s in record {
  prefix = put (lexeme (kind.Word KwMeasure) c k) m.prefix;
  cut = ap (λ z. lexeme (kind.Word KwMeasure) c k ∷ z) m.cut;
  alike = λ o b. measure_names next (m.alike o b);
  goes_on = λ to s. let g = m.goes_on (a_number ∷ a_mark Semicolon ∷ to) (number_fit, (mark_fit Semicolon, s)) in (g.0, g.1, _, measure_def g.3);
}
measure_stuck (measure_number (next {bytes = c} {at = k}) p f) = let m = names_moves p in record {
  prefix = put (lexeme (kind.Word KwMeasure) c k) m.prefix;
  cut = ap (λ z. lexeme (kind.Word KwMeasure) c k ∷ z) (m.cut ∙ ap m.prefix.before (sym f.0));
  alike = λ o b. measure_number next (m.moves o) (misses_number_alike f b);
  goes_on = λ to s. (a_number ∷ a_mark Semicolon ∷ to, (number_fit, (mark_fit Semicolon, s)), _, measure_def (m.moves _));
}
measure_stuck (measure_end {value} (next {bytes = c} {at = k}) p (next {bytes = d} {at = l}) f) = let m = names_moves p in record {
  prefix = put (lexeme (kind.Word KwMeasure) c k) (both m.prefix (put (lexeme (kind.Number value) d l) nothing));
  cut = ap (λ z. lexeme (kind.Word KwMeasure) c k ∷ z) (m.cut ∙ ap (λ z. m.prefix.before (lexeme (kind.Number value) d l ∷ z)) (sym f.0));
  alike = λ o b. measure_end next (m.moves (lexeme (kind.Number value) d l ∷ o)) next (misses_alike f b);
  goes_on = λ to s. (a_mark Semicolon ∷ to, (mark_fit Semicolon, s), _, measure_def (m.moves _));
}
