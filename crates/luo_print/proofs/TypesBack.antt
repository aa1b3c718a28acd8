-- The texts of names, bounds, type expressions, definitions and measures read back.
use Rattle.std.proofs.Common.{◌≡◌, ℕ, List, [], ◌∷◌, ◌++◌, refl, ap, sym, ◌∙◌, arith, append_assoc, flat_map, Option, None, Some, codes, decimal}
use Rattle.std.specs.List.{AllByRecursion}
use Rattle.std.proofs.lemmas.List.{append-nil}
use Rattle.luo_scan.specs.declared.token.Word.{Word}
use Rattle.luo_scan.specs.declared.token.Word.TheVariants.{KwSequence, KwSet, KwCycle, KwMultiset, KwPowerset, KwIn, KwCard, KwEpsilon, KwAtom, KwProduct, KwType, KwMeasure}
use Rattle.luo_scan.specs.declared.token.Mark.{Mark}
use Rattle.luo_scan.specs.declared.token.Mark.TheVariants.{Semicolon, Comma, Equals, Bar, LeftRound, RightRound, LessEqual, GreaterEqual, Dots, Colon}
use Rattle.luo_scan.specs.declared.token.TokenKind.TheVariants as kind
use Rattle.luo_scan.specs.Laws.{IsFit}
use Rattle.luo_scan.specs.Lexemes.{Lexeme}
use Rattle.luo_model.specs.declared.program.Kind.{Kind}
use Rattle.luo_source.specs.declared.names.Name.{Name}
use Rattle.luo_source.specs.declared.types.Range.{Range}
use Rattle.luo_source.specs.declared.types.Range.TheVariants.{Exactly, AtMost, AtLeast, Between}
use Rattle.luo_source.specs.declared.types.Bound.{Bound}
use Rattle.luo_source.specs.declared.types.TypeExpr.{TypeExpr}
use Rattle.luo_source.specs.declared.types.TypeExpr.TheVariants.{Named, Epsilon, Atom, Union, Product, Coll}
use Rattle.luo_source.specs.declared.types.TypeDef.{TypeDef}
use Rattle.luo_source.specs.declared.types.MeasureDef.{MeasureDef}
use Rattle.luo_source.specs.View.{expr_of, expr_list, type_def_of}
use Rattle.luo_source.specs.GrammarTypes.{AreNames, last_name, more_names, IsRange, exactly, at_most, at_least, between, IsCollection, sequence, set, cycle, multiset, powerset, EndsCollection, unbounded, bounded, IsExpr, one_term, union, AreTerms, last_term, more_terms, IsTerm, named, epsilon, atom, product, collection, AreFactors, last_factor, more_factors, IsTypeDef, type_def, IsMeasure, measure_def}
use Rattle.luo_print.specs.Layout.{joined, name_list}
use Rattle.luo_print.specs.CanonicalTypes.{kind_text, range_text, bound_text, expr_text, expr_texts, type_def_line, measure_line}
use Rattle.luo_print.specs.Same.{SameNames, SameBound, SameExpr, SameExprs, same_named, same_epsilon, same_atom, no_exprs, more_exprs, SameTypeDef, SameMeasure}
use Rattle.luo_print.proofs.Cuts.{Quiet, Any, Reads, Then, Takes, takes, seq, next, read_as, read_text, quietly, word_reads, name_reads, quiet_space}
use Rattle.luo_print.proofs.Numerals.{number_reads}
use Rattle.luo_print.proofs.Literals as lit
use Rattle.luo_print.proofs.Literals.{TakesWord, TakesMark}
use Rattle.luo_print.proofs.TypeTexts.{union_text, product_text, coll_text}
use Rattle.luo_print.proofs.SameViews.{unions, products, collections}

abbrev pub AllFit : List Lexeme → Type 0
AllFit ls = AllByRecursion IsFit ls

pub quiet_close : (rest : List ℕ) → Quiet (41 ∷ rest)
quiet_close rest h = grind arith

pub quiet_comma : (rest : List ℕ) → Quiet (44 ∷ rest)
quiet_comma rest h = grind arith

pub quiet_semicolon : (rest : List ℕ) → Quiet (59 ∷ rest)
quiet_semicolon rest h = grind arith

quiet_dot : (rest : List ℕ) → Quiet (46 ∷ rest)
quiet_dot rest h = grind arith

-- names

abbrev pub NamesAs : Mark → List Name → List Lexeme → List Lexeme → Type 0
NamesAs close ns from to = (ms : List Name) × AreNames close from to ms × SameNames ns ms

names_tail : {close : Mark} {from to : List Lexeme} {ns : List Name} → AreNames close from to ns → flat_map (λ n. codes ", " ++ n.text) ns ≡ codes ", " ++ name_list ns
names_tail last_name = refl
names_tail (more_names d) = refl

one_name : (close : Mark) (bytes text : List ℕ) (at : ℕ) (from to : List Lexeme) → Then (Takes kind.Name text) (Takes (kind.Mark close) bytes) from to → NamesAs close (record { text = text; at = at } ∷ []) from to
one_name close bytes text at from to (mid, takes {at = k}, takes) = (record { text = text; at = k } ∷ [], last_name, (refl, tt))

name_more : (close : Mark) (ns : List Name) (text : List ℕ) (at : ℕ) (from to : List Lexeme) → Then (Takes kind.Name text) (Then (TakesMark Comma) (NamesAs close ns)) from to → NamesAs close (record { text = text; at = at } ∷ ns) from to
name_more close ns text at from to (mid, takes {at = k}, (next, takes, (ms, d, s))) = (record { text = text; at = k } ∷ ms, more_names d, (refl, s))

pub names_back : {close : Mark} {from to : List Lexeme} {ns : List Name} → AreNames close from to ns → (c bytes : List ℕ) → Reads Any c (Takes (kind.Mark close) bytes) → ((rest : List ℕ) → Quiet (c ++ rest)) → AllFit from
    → AllFit to × Reads Any (name_list ns ++ c) (NamesAs close ns)
names_back (last_name {close = close} {text = text} {at = at}) c bytes r q f =
    (f.1.1, read_text (ap (λ t. t ++ c) (sym (append-nil text))) (read_as (seq (name_reads text at f.0) r (λ rest d. q rest)) (one_name close bytes text at)))
names_back (more_names {close = close} {text = text} {at = at} {names = ns} d) c bytes r q f =
    let rest = names_back d c bytes r q f.1.1 in (
      rest.0,
      read_text (sym (append_assoc text (flat_map (λ n. codes ", " ++ n.text) ns) c ∙ ap (λ t. text ++ (t ++ c)) (names_tail d)))
          (read_as (seq (name_reads text at f.0) (next lit.comma rest.1) (λ more d. quiet_comma [])) (name_more close ns text at)),
    )

-- bounds

exactly_step : (n : ℕ) (from to : List Lexeme) → Then (TakesMark Equals) (Takes (kind.Number n) (decimal n)) from to → IsRange from to (Exactly n)
exactly_step n from to (mid, takes, takes) = exactly

at_most_step : (n : ℕ) (from to : List Lexeme) → Then (TakesMark LessEqual) (Takes (kind.Number n) (decimal n)) from to → IsRange from to (AtMost n)
at_most_step n from to (mid, takes, takes) = at_most

at_least_step : (n : ℕ) (from to : List Lexeme) → Then (TakesMark GreaterEqual) (Takes (kind.Number n) (decimal n)) from to → IsRange from to (AtLeast n)
at_least_step n from to (mid, takes, takes) = at_least

between_step : (m n : ℕ) (from to : List Lexeme) → Then (Then (Then (TakesWord KwIn) (Takes (kind.Number m) (decimal m))) (TakesMark Dots)) (Takes (kind.Number n) (decimal n)) from to → IsRange from to (Between m n)
between_step m n from to (three, (two, (one, takes, takes), takes), takes) = between

range_back : {from to : List Lexeme} {range : Range} → IsRange from to range → AllFit from → AllFit to × Reads Quiet (range_text range) (λ from to. IsRange from to range)
range_back (exactly {n = n}) f = (f.1.1, read_as (next lit.exactly (number_reads n f.1.0.1)) (exactly_step n))
range_back (at_most {n = n}) f = (f.1.1, read_as (next lit.at_most (number_reads n f.1.0.1)) (at_most_step n))
range_back (at_least {n = n}) f = (f.1.1, read_as (next lit.at_least (number_reads n f.1.0.1)) (at_least_step n))
range_back (between {low = m} {high = n}) f =
    (f.1.1.1.1, read_as (next (seq (next lit.in_word (number_reads m f.1.0.1)) lit.dots (λ rest d. quiet_dot [])) (number_reads n f.1.1.1.0.1)) (between_step m n))

abbrev EndsAs : Option Bound → List Lexeme → List Lexeme → Type 0
EndsAs bound from to = (other : Option Bound) × EndsCollection from to other × SameBound bound other

unbounded_step : (from to : List Lexeme) → TakesMark RightRound from to → EndsAs None from to
unbounded_step from to takes = (None, unbounded, tt)

bounded_step : (range : Range) (at : ℕ) (from to : List Lexeme) → Then (Then (Then (TakesMark Comma) (TakesWord KwCard)) (λ from to. IsRange from to range)) (TakesMark RightRound) from to → EndsAs (Some (record { range = range; at = at })) from to
bounded_step range at from to (three, (two, (one, takes, takes {at = k}), r), takes) = (Some (record { range = range; at = k }), bounded r, refl)

ends_back : {from to : List Lexeme} {bound : Option Bound} → EndsCollection from to bound → AllFit from → AllFit to × Reads Any (bound_text bound ++ codes ")") (EndsAs bound)
ends_back unbounded f = (f.1, read_as lit.closing_round unbounded_step)
ends_back (bounded {at = at} {range = range} r) f =
    let back = range_back r f.1.1 in
    (back.0.1, read_as (seq (next lit.card back.1) lit.closing_round (λ rest d. quiet_close [])) (bounded_step range at))

quiet_bound : (bound : Option Bound) (rest : List ℕ) → Quiet ((bound_text bound ++ codes ")") ++ rest)
quiet_bound None rest = quiet_close []
quiet_bound (Some bound) rest = quiet_comma []

kind_reads : {word : Word} {of : Kind} → IsCollection word of → Reads Any (kind_text of ++ codes "(") (Then (TakesWord word) (TakesMark LeftRound))
kind_reads sequence = seq (word_reads KwSequence 115 (codes "equence") refl) lit.opening_round (λ rest d. lit.quiet_round [])
kind_reads set = seq (word_reads KwSet 115 (codes "et") refl) lit.opening_round (λ rest d. lit.quiet_round [])
kind_reads cycle = seq (word_reads KwCycle 99 (codes "ycle") refl) lit.opening_round (λ rest d. lit.quiet_round [])
kind_reads multiset = seq (word_reads KwMultiset 109 (codes "ultiset") refl) lit.opening_round (λ rest d. lit.quiet_round [])
kind_reads powerset = seq (word_reads KwPowerset 112 (codes "owerset") refl) lit.opening_round (λ rest d. lit.quiet_round [])

-- type expressions

abbrev pub ExprAs : TypeExpr → List Lexeme → List Lexeme → Type 0
ExprAs e from to = (other : TypeExpr) × IsExpr from to other × SameExpr (expr_of e) (expr_of other)

abbrev TermAs : TypeExpr → List Lexeme → List Lexeme → Type 0
TermAs e from to = (other : TypeExpr) × IsTerm from to other × SameExpr (expr_of e) (expr_of other)

abbrev TermsAs : List TypeExpr → List Lexeme → List Lexeme → Type 0
TermsAs es from to = (others : List TypeExpr) × AreTerms from to others × SameExprs (expr_list es) (expr_list others)

abbrev FactorsAs : List TypeExpr → List Lexeme → List Lexeme → Type 0
FactorsAs es from to = (others : List TypeExpr) × AreFactors from to others × SameExprs (expr_list es) (expr_list others)

terms_tail : {from to : List Lexeme} {ts : List TypeExpr} → AreTerms from to ts → flat_map (λ t. codes " | " ++ t) (expr_texts (expr_list ts)) ≡ codes " | " ++ joined (codes " | ") (expr_texts (expr_list ts))
terms_tail (last_term p) = refl
terms_tail (more_terms p ps) = refl

factors_tail : {from to : List Lexeme} {ts : List TypeExpr} → AreFactors from to ts → flat_map (λ t. codes ", " ++ t) (expr_texts (expr_list ts)) ≡ codes ", " ++ joined (codes ", ") (expr_texts (expr_list ts))
factors_tail (last_factor p) = refl
factors_tail (more_factors p ps) = refl

one_step : (t : TypeExpr) (from to : List Lexeme) → TermAs t from to → ExprAs t from to
one_step t from to (u, p, s) = (u, one_term p, s)

union_step : (t : TypeExpr) (ts : List TypeExpr) (from to : List Lexeme) → Then (TermAs t) (Then (TakesMark Bar) (TermsAs ts)) from to → ExprAs (Union (t ∷ ts)) from to
union_step t ts from to (mid, (u, p, s), (next, takes, (us, ps, ss))) = (Union (u ∷ us), union p ps, unions (t ∷ ts) (u ∷ us) (more_exprs s ss))

last_term_step : (t : TypeExpr) (from to : List Lexeme) → TermAs t from to → TermsAs (t ∷ []) from to
last_term_step t from to (u, p, s) = (u ∷ [], last_term p, more_exprs s no_exprs)

more_terms_step : (t : TypeExpr) (ts : List TypeExpr) (from to : List Lexeme) → Then (TermAs t) (Then (TakesMark Bar) (TermsAs ts)) from to → TermsAs (t ∷ ts) from to
more_terms_step t ts from to (mid, (u, p, s), (next, takes, (us, ps, ss))) = (u ∷ us, more_terms p ps, more_exprs s ss)

last_factor_step : (t : TypeExpr) (from to : List Lexeme) → Then (ExprAs t) (TakesMark RightRound) from to → FactorsAs (t ∷ []) from to
last_factor_step t from to (mid, (u, p, s), takes) = (u ∷ [], last_factor p, more_exprs s no_exprs)

more_factors_step : (t : TypeExpr) (ts : List TypeExpr) (from to : List Lexeme) → Then (ExprAs t) (Then (TakesMark Comma) (FactorsAs ts)) from to → FactorsAs (t ∷ ts) from to
more_factors_step t ts from to (mid, (u, p, s), (next, takes, (us, ps, ss))) = (u ∷ us, more_factors p ps, more_exprs s ss)

named_step : (text : List ℕ) (at : ℕ) (from to : List Lexeme) → Takes kind.Name text from to → TermAs (Named (record { text = text; at = at })) from to
named_step text at from to (takes {at = k}) = (Named (record { text = text; at = k }), named, same_named refl)

epsilon_step : (at : ℕ) (from to : List Lexeme) → TakesWord KwEpsilon from to → TermAs (Epsilon at) from to
epsilon_step at from to (takes {at = k}) = (Epsilon k, epsilon, same_epsilon)

atom_step : (w weight_at at : ℕ) (from to : List Lexeme) → Then (Then (Then (TakesWord KwAtom) (TakesMark LeftRound)) (Takes (kind.Number w) (decimal w))) (TakesMark RightRound) from to → TermAs (Atom w weight_at at) from to
atom_step w weight_at at from to (three, (two, (one, takes {at = k}, takes), takes {at = l}), takes) = (Atom w l k, atom, same_atom)

product_step : (t : TypeExpr) (ts : List TypeExpr) (at : ℕ) (from to : List Lexeme) → Then (Then (TakesWord KwProduct) (TakesMark LeftRound)) (Then (ExprAs t) (Then (TakesMark Comma) (FactorsAs ts))) from to → TermAs (Product (t ∷ ts) at) from to
product_step t ts at from to (two, (one, takes {at = k}, takes), (three, (u, p, s), (next, takes, (us, ps, ss)))) = (Product (u ∷ us) k, product p ps, products (t ∷ ts) (u ∷ us) at k (more_exprs s ss))

collection_step : {word : Word} {of : Kind} (t : TypeExpr) (bound : Option Bound) (at : ℕ) → IsCollection word of → (from to : List Lexeme) → Then (Then (Then (TakesWord word) (TakesMark LeftRound)) (ExprAs t)) (EndsAs bound) from to → TermAs (Coll of t bound at) from to
collection_step {of = of} t bound at c from to (three, (two, (one, takes {at = k}, takes), (u, p, s)), (other, e, b)) = (Coll of u other k, collection c p e, collections of t u bound other at k s b)

mutual
  pub expr_back : {from to : List Lexeme} {e : TypeExpr} → IsExpr from to e → AllFit from → AllFit to × Reads Quiet (expr_text (expr_of e)) (ExprAs e)
  expr_back (one_term {t = t} p) f = let r = term_back p f in (r.0, read_as r.1 (one_step t))
  expr_back (union {t = t} {ts = ts} p ps) f =
      let r = term_back p f in
      let s = terms_back ps r.0.1 in
      (s.0, read_text (sym (union_text (t ∷ ts) ∙ ap (λ z. expr_text (expr_of t) ++ z) (terms_tail ps))) (read_as (seq r.1 (next lit.bar s.1) (λ rest d. quiet_space [])) (union_step t ts)))

  terms_back : {from to : List Lexeme} {ts : List TypeExpr} → AreTerms from to ts → AllFit from → AllFit to × Reads Quiet (joined (codes " | ") (expr_texts (expr_list ts))) (TermsAs ts)
  terms_back (last_term {t = t} p) f = let r = term_back p f in (r.0, read_text (sym (append-nil (expr_text (expr_of t)))) (read_as r.1 (last_term_step t)))
  terms_back (more_terms {t = t} {ts = ts} p ps) f =
      let r = term_back p f in
      let s = terms_back ps r.0.1 in
      (s.0, read_text (ap (λ z. expr_text (expr_of t) ++ z) (sym (terms_tail ps))) (read_as (seq r.1 (next lit.bar s.1) (λ rest d. quiet_space [])) (more_terms_step t ts)))

  term_back : {from to : List Lexeme} {e : TypeExpr} → IsTerm from to e → AllFit from → AllFit to × Reads Quiet (expr_text (expr_of e)) (TermAs e)
  term_back (named {text = text} {at = at}) f = (f.1, read_as (name_reads text at f.0) (named_step text at))
  term_back (epsilon {at = at}) f = (f.1, read_as lit.epsilon (epsilon_step at))
  term_back (atom {at = at} {weight_at = weight_at} {weight = w}) f =
      (f.1.1.1.1, quietly (read_as (seq (next lit.atom_round (number_reads w f.1.1.0.1)) lit.closing_round (λ rest d. quiet_close [])) (atom_step w weight_at at)))
  term_back (product {at = at} {t = t} {ts = ts} p ps) f =
      let r = expr_back p f.1.1 in
      let s = factors_back ps r.0.1 in (
        s.0,
        quietly (read_text
            (sym (product_text (t ∷ ts) at ∙ ap (λ z. codes "product(" ++ z) (append_assoc (expr_text (expr_of t)) (flat_map (λ t. codes ", " ++ t) (expr_texts (expr_list ts))) (codes ")") ∙ ap (λ z. expr_text (expr_of t) ++ (z ++ codes ")")) (factors_tail ps))))
            (read_as (next lit.product_round (seq r.1 (next lit.comma s.1) (λ rest d. quiet_comma []))) (product_step t ts at))),
      )
  term_back (collection {of = of} {at = at} {t = t} {bound = bound} c p e) f =
      let r = expr_back p f.1.1 in
      let s = ends_back e r.0 in (
        s.0,
        quietly (read_text (sym (coll_text of t bound at ∙ append_assoc (kind_text of ++ codes "(" ++ expr_text (expr_of t)) (bound_text bound) (codes ")")))
            (read_as (seq (next (kind_reads c) r.1) s.1 (λ rest d. quiet_bound bound rest)) (collection_step t bound at c))),
      )

  factors_back : {from to : List Lexeme} {ts : List TypeExpr} → AreFactors from to ts → AllFit from → AllFit to × Reads Any (joined (codes ", ") (expr_texts (expr_list ts)) ++ codes ")") (FactorsAs ts)
  factors_back (last_factor {t = t} p) f =
      let r = expr_back p f in
      (r.0.1, read_text (ap (λ z. z ++ codes ")") (sym (append-nil (expr_text (expr_of t))))) (read_as (seq r.1 lit.closing_round (λ rest d. quiet_close [])) (last_factor_step t)))
  factors_back (more_factors {t = t} {ts = ts} p ps) f =
      let r = expr_back p f in
      let s = factors_back ps r.0.1 in (
        s.0,
        read_text (sym (append_assoc (expr_text (expr_of t)) (flat_map (λ t. codes ", " ++ t) (expr_texts (expr_list ts))) (codes ")") ∙ ap (λ z. expr_text (expr_of t) ++ (z ++ codes ")")) (factors_tail ps)))
            (read_as (seq r.1 (next lit.comma s.1) (λ rest d. quiet_comma [])) (more_factors_step t ts)),
      )

-- definitions and measures

abbrev pub TypeDefAs : TypeDef → List Lexeme → List Lexeme → Type 0
TypeDefAs d from to = (e : TypeDef) × IsTypeDef from to e × SameTypeDef (type_def_of d) (type_def_of e)

abbrev pub MeasureAs : MeasureDef → List Lexeme → List Lexeme → Type 0
MeasureAs d from to = (e : MeasureDef) × IsMeasure from to e × SameMeasure d e

type_def_step : (names : List Name) (body : TypeExpr) (from to : List Lexeme) → Then (Then (Then (TakesWord KwType) (NamesAs Equals names)) (ExprAs body)) (TakesMark Semicolon) from to → TypeDefAs (record { names = names; body = body }) from to
type_def_step names body from to (three, (two, (one, takes, (ms, d, s)), (u, p, t)), takes) = (record { names = ms; body = u }, type_def d p, (s, t))

pub type_def_back : {from to : List Lexeme} {d : TypeDef} → IsTypeDef from to d → AllFit from → AllFit to × Reads Any (type_def_line (type_def_of d)) (TypeDefAs d)
type_def_back (type_def {names = names} {body = body} d p) f =
    let r = names_back d (codes " = ") _ lit.equals (λ rest. quiet_space []) f.1 in
    let s = expr_back p r.0 in
    (s.0.1, read_as (seq (next (next lit.type_word r.1) s.1) lit.semicolon_line (λ rest d. quiet_semicolon [])) (type_def_step names body))

measure_step : (names : List Name) (value : ℕ) (from to : List Lexeme) → Then (Then (Then (TakesWord KwMeasure) (NamesAs Colon names)) (Takes (kind.Number value) (decimal value))) (TakesMark Semicolon) from to → MeasureAs (record { names = names; value = value }) from to
measure_step names value from to (three, (two, (one, takes, (ms, d, s)), takes), takes) = (record { names = ms; value = value }, measure_def d, (s, refl))

pub measure_back : {from to : List Lexeme} {d : MeasureDef} → IsMeasure from to d → AllFit from → AllFit to × Reads Any (measure_line d) (MeasureAs d)
measure_back (measure_def {value = value} {names = names} d) f =
    let r = names_back d (codes " : ") _ lit.colon (λ rest. quiet_space []) f.1 in
    (r.0.1.1, read_as (seq (next (next lit.measure_word r.1) (number_reads value r.0.0.1)) lit.semicolon_line (λ rest d. quiet_semicolon [])) (measure_step names value))
