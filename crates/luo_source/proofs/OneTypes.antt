-- Names, bounds and type expressions are read in one way.
use Rattle.std.proofs.Common.{◌≡◌, Option, List, refl, sym}
use Rattle.luo_scan.specs.declared.token.Word.{Word}
use Rattle.luo_scan.specs.declared.token.Word.TheVariants.{KwEpsilon, KwAtom, KwProduct}
use Rattle.luo_scan.specs.declared.token.Mark.{Mark}
use Rattle.luo_scan.specs.declared.token.Mark.TheVariants.{Comma, Bar}
use Rattle.luo_scan.specs.declared.token.TokenKind.TheVariants as kind
use Rattle.luo_scan.specs.Lexemes.{Lexeme}
use Rattle.luo_model.specs.declared.program.Kind.{Kind}
use Rattle.luo_source.specs.declared.names.Name.{Name}
use Rattle.luo_source.specs.declared.types.Range.{Range}
use Rattle.luo_source.specs.declared.types.Bound.{Bound}
use Rattle.luo_source.specs.declared.types.TypeExpr.{TypeExpr}
use Rattle.luo_source.specs.declared.types.TypeDef.{TypeDef}
use Rattle.luo_source.specs.declared.types.MeasureDef.{MeasureDef}
use Rattle.luo_source.specs.Ends.{No}
use Rattle.luo_source.specs.GrammarTypes.{AreNames, last_name, more_names, IsRange, exactly, at_most, at_least, between, IsCollection, sequence, set, cycle, multiset, powerset, EndsCollection, unbounded, bounded, IsExpr, one_term, union, AreTerms, last_term, more_terms, IsTerm, named, epsilon, atom, product, collection, AreFactors, last_factor, more_factors, IsTypeDef, type_def, IsMeasure, measure_def}

pub names_one : {close : Mark} {from from' to to' : List Lexeme} {names names' : List Name} → (close ≡ Comma → ⊥) → AreNames close from to names → AreNames close from' to' names' → from ≡ from' → (to ≡ to') × (names ≡ names')
names_one n last_name last_name e = (cc, cc)
names_one n last_name (more_names q) e = absurd (n (cc))
names_one n (more_names p) last_name e = absurd (n (cc))
names_one n (more_names p) (more_names q) e =
    let rest = names_one n p q (cc) in
    (rest.0, cc)

pub range_one : {from from' to to' : List Lexeme} {r s : Range} → IsRange from to r → IsRange from' to' s → from ≡ from' → (to ≡ to') × (r ≡ s)
range_one exactly exactly e = (cc, cc)
range_one at_most at_most e = (cc, cc)
range_one at_least at_least e = (cc, cc)
range_one between between e = (cc, cc)
range_one p q e = cc

pub collection_one : {word word' : Word} {of of' : Kind} → IsCollection word of → IsCollection word' of' → word ≡ word' → of ≡ of'
collection_one sequence sequence e = refl
collection_one set set e = refl
collection_one cycle cycle e = refl
collection_one multiset multiset e = refl
collection_one powerset powerset e = refl
collection_one p q e = cc

-- the word of a collection begins no other term
pub collection_only : {word : Word} {of : Kind} → IsCollection word of → (word ≡ KwEpsilon → ⊥) × (word ≡ KwAtom → ⊥) × (word ≡ KwProduct → ⊥)
collection_only sequence = (λ e. cc, λ e. cc, λ e. cc)
collection_only set = (λ e. cc, λ e. cc, λ e. cc)
collection_only cycle = (λ e. cc, λ e. cc, λ e. cc)
collection_only multiset = (λ e. cc, λ e. cc, λ e. cc)
collection_only powerset = (λ e. cc, λ e. cc, λ e. cc)

pub ends_one : {from from' to to' : List Lexeme} {b c : Option Bound} → EndsCollection from to b → EndsCollection from' to' c → from ≡ from' → (to ≡ to') × (b ≡ c)
ends_one unbounded unbounded e = (cc, cc)
ends_one (bounded p) (bounded q) e =
    let range = range_one p q (cc) in
    (cc, cc)
ends_one p q e = cc

-- no `|` stands where a collection ends
pub ends_no_bar : {from to : List Lexeme} {b : Option Bound} → EndsCollection from to b → No (kind.Mark Bar) from
ends_no_bar unbounded bytes at rest f = cc
ends_no_bar (bounded p) bytes at rest f = cc

mutual
  pub expr_one : {from from' to to' : List Lexeme} {t u : TypeExpr} → IsExpr from to t → IsExpr from' to' u → from ≡ from' → No (kind.Mark Bar) to → No (kind.Mark Bar) to' → (to ≡ to') × (t ≡ u)
  expr_one (one_term p) (one_term q) e m n = term_one p q e
  expr_one (one_term p) (union q qs) e m n = absurd (m _ _ _ (term_one p q e).0)
  expr_one (union p ps) (one_term q) e m n = absurd (n _ _ _ (sym (term_one p q e).0))
  expr_one (union p ps) (union q qs) e m n =
      let first = term_one p q e in
      let rest = terms_one ps qs (cc) m n in
      (rest.0, cc)

  pub terms_one : {from from' to to' : List Lexeme} {ts us : List TypeExpr} → AreTerms from to ts → AreTerms from' to' us → from ≡ from' → No (kind.Mark Bar) to → No (kind.Mark Bar) to' → (to ≡ to') × (ts ≡ us)
  terms_one (last_term p) (last_term q) e m n = let first = term_one p q e in (first.0, cc)
  terms_one (last_term p) (more_terms q qs) e m n = absurd (m _ _ _ (term_one p q e).0)
  terms_one (more_terms p ps) (last_term q) e m n = absurd (n _ _ _ (sym (term_one p q e).0))
  terms_one (more_terms p ps) (more_terms q qs) e m n =
      let first = term_one p q e in
      let rest = terms_one ps qs (cc) m n in
      (rest.0, cc)

  pub term_one : {from from' to to' : List Lexeme} {t u : TypeExpr} → IsTerm from to t → IsTerm from' to' u → from ≡ from' → (to ≡ to') × (t ≡ u)
  term_one named named e = (cc, cc)
  term_one epsilon epsilon e = (cc, cc)
  term_one atom atom e = (cc, cc)
  term_one (product p ps) (product q qs) e =
      let first = expr_one p q (cc) (λ bytes at rest f. cc) (λ bytes at rest f. cc) in
      let rest = factors_one ps qs (cc) in
      (rest.0, cc)
  term_one (collection w p x) (collection v q y) e =
      let same = collection_one w v (cc) in
      let first = expr_one p q (cc) (ends_no_bar x) (ends_no_bar y) in
      let rest = ends_one x y first.0 in
      (rest.0, cc)
  term_one (collection w p x) named e = cc
  term_one (collection w p x) epsilon e = absurd ((collection_only w).0 (cc))
  term_one (collection w p x) atom e = absurd ((collection_only w).1 (cc))
  term_one (collection w p x) (product q qs) e = absurd ((collection_only w).2 (cc))
  term_one named (collection v q y) e = cc
  term_one epsilon (collection v q y) e = absurd ((collection_only v).0 (cc))
  term_one atom (collection v q y) e = absurd ((collection_only v).1 (cc))
  term_one (product p ps) (collection v q y) e = absurd ((collection_only v).2 (cc))
  term_one p q e = cc

  pub factors_one : {from from' to to' : List Lexeme} {ts us : List TypeExpr} → AreFactors from to ts → AreFactors from' to' us → from ≡ from' → (to ≡ to') × (ts ≡ us)
  factors_one (last_factor p) (last_factor q) e =
      let first = expr_one p q e (λ bytes at rest f. cc) (λ bytes at rest f. cc) in (cc, cc)
  factors_one (last_factor p) (more_factors q qs) e =
      let first = expr_one p q e (λ bytes at rest f. cc) (λ bytes at rest f. cc) in cc
  factors_one (more_factors p ps) (last_factor q) e =
      let first = expr_one p q e (λ bytes at rest f. cc) (λ bytes at rest f. cc) in cc
  factors_one (more_factors p ps) (more_factors q qs) e =
      let first = expr_one p q e (λ bytes at rest f. cc) (λ bytes at rest f. cc) in
      let rest = factors_one ps qs (cc) in
      (rest.0, cc)

pub type_def_one : {from from' to to' : List Lexeme} {d d' : TypeDef} → IsTypeDef from to d → IsTypeDef from' to' d' → from ≡ from' → (to ≡ to') × (d ≡ d')
type_def_one (type_def p q) (type_def r s) e =
    let names = names_one (λ f. cc) p r (cc) in
    let body = expr_one q s names.0 (λ bytes at rest f. cc) (λ bytes at rest f. cc) in
    (cc, cc)

pub measure_one : {from from' to to' : List Lexeme} {d d' : MeasureDef} → IsMeasure from to d → IsMeasure from' to' d' → from ≡ from' → (to ≡ to') × (d ≡ d')
measure_one (measure_def p) (measure_def q) e =
    let names = names_one (λ f. cc) p q (cc) in
    (cc, cc)
