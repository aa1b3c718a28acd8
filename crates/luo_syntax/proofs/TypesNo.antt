-- Where reading type expressions and definitions stops, none is read.
use Rattle.std.proofs.Common.{◌≡◌, ℕ, Option, List, ◌∷◌, sym}
use Rattle.luo_scan.specs.declared.token.Mark.TheVariants.{Comma, LeftRound}
use Rattle.luo_scan.specs.declared.token.TokenKind.TheVariants as kind
use Rattle.luo_scan.specs.Lexemes.{Lexeme, lexeme}
use Rattle.luo_source.specs.declared.types.Range.{Range}
use Rattle.luo_source.specs.declared.types.Bound.{Bound}
use Rattle.luo_source.specs.declared.types.TypeExpr.{TypeExpr}
use Rattle.luo_source.specs.declared.types.TypeDef.{TypeDef}
use Rattle.luo_source.specs.declared.types.MeasureDef.{MeasureDef}
use Rattle.luo_source.specs.Ends.{EndsExpr}
use Rattle.luo_syntax.specs.inner.Next.{next, next_at}
use Rattle.luo_source.specs.GrammarTypes.{IsRange, exactly, at_most, at_least, between, EndsCollection, unbounded, bounded, IsExpr, one_term, union, AreTerms, last_term, more_terms, IsTerm, named, epsilon, atom, product, collection, AreFactors, last_factor, more_factors, IsTypeDef, type_def, IsMeasure, measure_def}
use Rattle.luo_syntax.specs.inner.TypeParts.{collection_next, IsBetween, limits, IsBound, a_bound, IsWeight, weight}
use Rattle.luo_syntax.specs.inner.StopsTypes.{BetweenStops, low_number, between_dots, high_number, RangeStops, no_range, exactly_number, at_most_number, at_least_number, in_between, BoundStops, bound_card, bound_range, bound_right, EndStops, no_end, in_bound, AtomStops, atom_left, atom_number, atom_right, TermsStop, in_term, past_bar, TermStops, no_term, in_atom, in_product, in_collection, ProductStops, product_left, product_first, product_comma, product_more, FactorsStop, in_factor, past_factor, past_comma, CollectionStops, collection_left, collection_part, collection_end, TypeDefStops, no_type, type_names, type_body, type_end, MeasureStops, no_measure, measure_names, measure_number, measure_end}
use Rattle.luo_source.proofs.Behind.{behind}
use Rattle.luo_syntax.proofs.NamesMoves.{names_no}
use Rattle.luo_source.proofs.OneTypes.{names_one, range_one, collection_only, ends_no_bar, expr_one, term_one}

between_no : {from from' at to : List Lexeme} {r : Range} → BetweenStops from at → IsBetween from' to r → from ≡ from' → ⊥
between_no (low_number m) limits e = m.1 _ _ _ _ e
between_no (between_dots next m) limits e = m.1 _ _ _ (behind e)
between_no (high_number next next m) limits e = m.1 _ _ _ _ (behind (behind e))

pub range_no : {from from' at to : List Lexeme} {r : Range} → RangeStops from at → IsRange from' to r → from ≡ from' → ⊥
range_no (no_range a b c d) exactly e = a.1 _ _ _ e
range_no (no_range a b c d) at_most e = b.1 _ _ _ e
range_no (no_range a b c d) at_least e = c.1 _ _ _ e
range_no (no_range a b c d) between e = d.1 _ _ _ e
range_no (exactly_number next m) exactly e = m.1 _ _ _ _ (behind e)
range_no (at_most_number next m) at_most e = m.1 _ _ _ _ (behind e)
range_no (at_least_number next m) at_least e = m.1 _ _ _ _ (behind e)
range_no (in_between next s) between e = between_no s limits (behind e)
range_no (exactly_number next m) q e = cc
range_no (at_most_number next m) q e = cc
range_no (at_least_number next m) q e = cc
range_no (in_between next s) q e = cc

bound_no : {from from' at to : List Lexeme} {b : Bound} → BoundStops from at → IsBound from' to b → from ≡ from' → ⊥
bound_no (bound_card m) (a_bound q) e = m.1 _ _ _ e
bound_no (bound_range next s) (a_bound q) e = range_no s q (behind e)
bound_no (bound_right next p m) (a_bound q) e = m.1 _ _ _ (range_one p q (behind e)).0

end_no : {from from' at to : List Lexeme} {b : Option Bound} → EndStops from at → EndsCollection from' to b → from ≡ from' → ⊥
end_no (no_end c r) unbounded e = r.1 _ _ _ e
end_no (no_end c r) (bounded q) e = c.1 _ _ _ e
end_no (in_bound next s) unbounded e = cc
end_no (in_bound next s) (bounded q) e = bound_no s (a_bound q) (behind e)

atom_no : {from from' at to : List Lexeme} {w : ℕ × ℕ} → AtomStops from at → IsWeight from' to w → from ≡ from' → ⊥
atom_no (atom_left m) weight e = m.1 _ _ _ e
atom_no (atom_number next m) weight e = m.1 _ _ _ _ (behind e)
atom_no (atom_right next next m) weight e = m.1 _ _ _ (behind (behind e))

mutual
  pub expr_no : {from from' at to : List Lexeme} {t : TypeExpr} → TermsStop from at → IsExpr from' to t → from ≡ from' → EndsExpr to → ⊥
  expr_no (in_term s) (one_term q) e m = term_no s q e
  expr_no (in_term s) (union q qs) e m = term_no s q e
  expr_no (past_bar p next s) (one_term q) e m = m _ _ _ (sym (term_one p q e).0)
  expr_no (past_bar p next s) (union q qs) e m = terms_no s qs (behind (term_one p q e).0) m

  pub terms_no : {from from' at to : List Lexeme} {ts : List TypeExpr} → TermsStop from at → AreTerms from' to ts → from ≡ from' → EndsExpr to → ⊥
  terms_no (in_term s) (last_term q) e m = term_no s q e
  terms_no (in_term s) (more_terms q qs) e m = term_no s q e
  terms_no (past_bar p next s) (last_term q) e m = m _ _ _ (sym (term_one p q e).0)
  terms_no (past_bar p next s) (more_terms q qs) e m = terms_no s qs (behind (term_one p q e).0) m

  pub term_no : {from from' at to : List Lexeme} {t : TypeExpr} → TermStops from at → IsTerm from' to t → from ≡ from' → ⊥
  term_no (no_term n p a x c) named e = n.1 _ _ _ e
  term_no (no_term n p a x c) epsilon e = p.1 _ _ _ e
  term_no (no_term n p a x c) atom e = a.1 _ _ _ e
  term_no (no_term n p a x c) (product q qs) e = x.1 _ _ _ e
  term_no (no_term n p a x c) (collection w q y) e = c.1 _ _ w _ _ _ e
  term_no (in_atom next s) atom e = atom_no s weight (behind e)
  term_no (in_atom next s) (collection w q y) e = absurd ((collection_only w).1 (cc))
  term_no (in_atom next s) q e = cc
  term_no (in_product next s) (product q qs) e = product_no s q qs (behind e)
  term_no (in_product next s) (collection w q y) e = absurd ((collection_only w).2 (cc))
  term_no (in_product next s) q e = cc
  term_no (in_collection (collection_next w next_at) s) (collection v q y) e = collection_no s q y (behind e)
  term_no (in_collection (collection_next w next_at) s) epsilon e = absurd ((collection_only w).0 (cc))
  term_no (in_collection (collection_next w next_at) s) atom e = absurd ((collection_only w).1 (cc))
  term_no (in_collection (collection_next w next_at) s) (product q qs) e = absurd ((collection_only w).2 (cc))
  term_no (in_collection (collection_next w next_at) s) named e = cc

  product_no : {from from' mid to at : List Lexeme} {c d : List ℕ} {k l : ℕ} {t : TypeExpr} {ts : List TypeExpr} → ProductStops from at → IsExpr from' (lexeme (kind.Mark Comma) d l ∷ mid) t → AreFactors mid to ts → from ≡ lexeme (kind.Mark LeftRound) c k ∷ from' → ⊥
  product_no (product_left m) q qs e = m.1 _ _ _ e
  product_no (product_first next s) q qs e = expr_no s q (behind e) (λ bytes at rest f. cc)
  product_no (product_comma next p n m) q qs e = m.1 _ _ _ (expr_one p q (behind e) n (λ bytes at rest f. cc)).0
  product_no (product_more next p next s) q qs e = factors_no s qs (behind (expr_one p q (behind e) (λ bytes at rest f. cc) (λ bytes at rest f. cc)).0)

  pub factors_no : {from from' to at : List Lexeme} {ts : List TypeExpr} → FactorsStop from at → AreFactors from' to ts → from ≡ from' → ⊥
  factors_no (in_factor s) (last_factor q) e = expr_no s q e (λ bytes at rest f. cc)
  factors_no (in_factor s) (more_factors q qs) e = expr_no s q e (λ bytes at rest f. cc)
  factors_no (past_factor p n r m) (last_factor q) e = r _ _ _ (expr_one p q e n (λ bytes at rest f. cc)).0
  factors_no (past_factor p n r m) (more_factors q qs) e = m.1 _ _ _ (expr_one p q e n (λ bytes at rest f. cc)).0
  factors_no (past_comma p next s) (last_factor q) e = let first = expr_one p q e (λ bytes at rest f. cc) (λ bytes at rest f. cc) in cc
  factors_no (past_comma p next s) (more_factors q qs) e = factors_no s qs (behind (expr_one p q e (λ bytes at rest f. cc) (λ bytes at rest f. cc)).0)

  collection_no : {from from' mid to at : List Lexeme} {c : List ℕ} {k : ℕ} {t : TypeExpr} {b : Option Bound} → CollectionStops from at → IsExpr from' mid t → EndsCollection mid to b → from ≡ lexeme (kind.Mark LeftRound) c k ∷ from' → ⊥
  collection_no (collection_left m) q y e = m.1 _ _ _ e
  collection_no (collection_part next s) q y e = expr_no s q (behind e) (ends_no_bar y)
  collection_no (collection_end next p n s) q y e = end_no s y (expr_one p q (behind e) n (ends_no_bar y)).0

pub type_def_no : {from from' at to : List Lexeme} {d : TypeDef} → TypeDefStops from at → IsTypeDef from' to d → from ≡ from' → ⊥
type_def_no (no_type m) (type_def r v) e = m.1 _ _ _ e
type_def_no (type_names next s) (type_def r v) e = names_no (λ f. cc) s r (behind e)
type_def_no (type_body next p s) (type_def r v) e = expr_no s v (names_one (λ f. cc) p r (behind e)).0 (λ bytes at rest f. cc)
type_def_no (type_end next p q n m) (type_def r v) e =
    let names = names_one (λ f. cc) p r (behind e) in
    m.1 _ _ _ (expr_one q v names.0 n (λ bytes at rest f. cc)).0

pub measure_no : {from from' at to : List Lexeme} {d : MeasureDef} → MeasureStops from at → IsMeasure from' to d → from ≡ from' → ⊥
measure_no (no_measure m) (measure_def r) e = m.1 _ _ _ e
measure_no (measure_names next s) (measure_def r) e = names_no (λ f. cc) s r (behind e)
measure_no (measure_number next p m) (measure_def r) e = m.1 _ _ _ _ (names_one (λ f. cc) p r (behind e)).0
measure_no (measure_end next p next m) (measure_def r) e = m.1 _ _ _ (behind (names_one (λ f. cc) p r (behind e)).0)
