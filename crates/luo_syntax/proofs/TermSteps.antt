-- How terms and definitions are put together from what is read.
use Rattle.std.proofs.Common.{◌≡◌, ℕ, ◌<◌, ◌≤◌, Option, List, [], ◌∷◌, ◌++◌, length, append_assoc, ap, sym, subst, ◌∙◌, arith}
use Rattle.luo_scan.specs.declared.token.Word.TheVariants.{KwEpsilon, KwAtom, KwProduct}
use Rattle.luo_scan.specs.declared.token.Mark.TheVariants.{Comma, Bar, LeftRound, RightRound}
use Rattle.luo_scan.specs.declared.token.TokenKind.{TokenKind}
use Rattle.luo_scan.specs.declared.token.TokenKind.TheVariants as kind
use Rattle.luo_scan.specs.Lexemes.{Lexeme}
use Rattle.luo_model.specs.declared.program.Kind.{Kind}
use Rattle.luo_source.specs.declared.names.Name.{Name}
use Rattle.luo_source.specs.declared.types.Range.{Range}
use Rattle.luo_source.specs.declared.types.Bound.{Bound}
use Rattle.luo_source.specs.declared.types.TypeExpr.{TypeExpr}
use Rattle.luo_source.specs.declared.types.TypeExpr.TheVariants.{Named, Epsilon, Atom, Union, Product, Coll}
use Rattle.luo_source.specs.Ends.{No, EndsExpr}
use Rattle.luo_syntax.specs.inner.Next.{IsNext, next, IsNextAt, next_at, IsName, next_name, Misses, MissesName}
use Rattle.luo_source.specs.GrammarTypes.{IsRange, exactly, at_most, at_least, between, EndsCollection, unbounded, bounded, IsExpr, one_term, union, AreTerms, last_term, more_terms, IsTerm, named, epsilon, atom, product, collection, AreFactors, last_factor, more_factors}
use Rattle.luo_syntax.specs.inner.TypeParts.{IsCollectionNext, collection_next, MissesCollection, IsWeight, weight, AreParts, parts, IsInside, inside, ReadsTerms, ReadsFactors}
use Rattle.luo_syntax.specs.inner.StopsTypes.{AtomStops, EndStops, TermsStop, in_term, past_bar, TermStops, no_term, in_atom, in_product, in_collection, ProductStops, product_left, product_first, product_comma, product_more, FactorsStop, in_factor, past_factor, past_comma, CollectionStops, collection_left, collection_part, collection_end}
use Rattle.luo_syntax.proofs.Nexts.{next_past, misses_past, is_next, no_at, next_shorter, next_at_shorter, name_shorter}
use Rattle.luo_syntax.proofs.TypesSteps.{next_at_past}

-- what is read is shorter behind

range_shorter : {from to : List Lexeme} {r : Range} → IsRange from to r → length to < length from
range_shorter exactly = omega arith
range_shorter at_most = omega arith
range_shorter at_least = omega arith
range_shorter between = omega arith

pub end_shorter : {from to : List Lexeme} {b : Option Bound} → EndsCollection from to b → length to < length from
end_shorter unbounded = omega arith
end_shorter (bounded p) = omega (arith, range_shorter p)

pub weight_shorter : {from to : List Lexeme} {w : ℕ × ℕ} → IsWeight from to w → length to < length from
weight_shorter weight = omega arith

mutual
  pub expr_shorter : {from to : List Lexeme} {t : TypeExpr} → IsExpr from to t → length to < length from
  expr_shorter (one_term p) = term_shorter p
  expr_shorter (union p ps) = omega (arith, term_shorter p, terms_shorter ps)

  pub terms_shorter : {from to : List Lexeme} {ts : List TypeExpr} → AreTerms from to ts → length to < length from
  terms_shorter (last_term p) = term_shorter p
  terms_shorter (more_terms p ps) = omega (arith, term_shorter p, terms_shorter ps)

  pub term_shorter : {from to : List Lexeme} {t : TypeExpr} → IsTerm from to t → length to < length from
  term_shorter named = omega arith
  term_shorter epsilon = omega arith
  term_shorter atom = omega arith
  term_shorter (product p ps) = omega (arith, expr_shorter p, factors_shorter ps)
  term_shorter (collection w p x) = omega (arith, expr_shorter p, end_shorter x)

  pub factors_shorter : {from to : List Lexeme} {ts : List TypeExpr} → AreFactors from to ts → length to < length from
  factors_shorter (last_factor p) = omega (arith, expr_shorter p)
  factors_shorter (more_factors p ps) = omega (arith, expr_shorter p, factors_shorter ps)

pub collection_word_shorter : {of : Kind} {k : ℕ} {from to : List Lexeme} → IsCollectionNext of k from to → length to < length from
collection_word_shorter (collection_next w next_at) = omega arith

-- terms

pub reads_epsilon : {from to : List Lexeme} {k : ℕ} → IsNextAt (kind.Word KwEpsilon) k from to → IsTerm from to (Epsilon k)
reads_epsilon next_at = epsilon

reads_weighed : {from mid to : List Lexeme} {k : ℕ} {w : ℕ × ℕ} → IsNextAt (kind.Word KwAtom) k from mid → IsWeight mid to w → IsTerm from to (Atom w.0 w.1 k)
reads_weighed next_at weight = atom

reads_parts : {from mid to : List Lexeme} {k : ℕ} {ts : List TypeExpr} → IsNextAt (kind.Word KwProduct) k from mid → AreParts mid to ts → IsTerm from to (Product ts k)
reads_parts next_at (parts p ps) = product p ps

reads_inside : {from mid to : List Lexeme} {of : Kind} {k : ℕ} {t : TypeExpr} → IsCollectionNext of k from mid → IsInside of k mid to t → IsTerm from to t
reads_inside (collection_next w next_at) (inside p x) = collection w p x

reads_named : {from to : List Lexeme} {name : Name} → IsName from to name → IsTerm from to (Named name)
reads_named next_name = named

collection_past : {what : TokenKind} {of : Kind} {k : ℕ} {from at to : List Lexeme} → Misses what from at → IsCollectionNext of k at to → IsCollectionNext of k from to
collection_past {of} {k} {to} m p = subst (λ z. IsCollectionNext of k z to) m.0 p

pub reads_atom : {from a mid to : List Lexeme} {k : ℕ} {w : ℕ × ℕ} → Misses (kind.Word KwEpsilon) from a → IsNextAt (kind.Word KwAtom) k a mid → IsWeight mid to w → IsTerm from to (Atom w.0 w.1 k)
reads_atom m p q = reads_weighed (next_at_past m p) q

pub reads_product : {from a b mid to : List Lexeme} {k : ℕ} {ts : List TypeExpr} → Misses (kind.Word KwEpsilon) from a → Misses (kind.Word KwAtom) a b → IsNextAt (kind.Word KwProduct) k b mid → AreParts mid to ts → IsTerm from to (Product ts k)
reads_product m n p q = reads_parts (next_at_past m (next_at_past n p)) q

pub reads_collection : {from a b c mid to : List Lexeme} {of : Kind} {k : ℕ} {t : TypeExpr} → Misses (kind.Word KwEpsilon) from a → Misses (kind.Word KwAtom) a b → Misses (kind.Word KwProduct) b c → IsCollectionNext of k c mid → IsInside of k mid to t → IsTerm from to t
reads_collection m n o p q = reads_inside (collection_past m (collection_past n (collection_past o p))) q

pub reads_name : {from a b c d to : List Lexeme} {name : Name} → Misses (kind.Word KwEpsilon) from a → Misses (kind.Word KwAtom) a b → Misses (kind.Word KwProduct) b c → MissesCollection c d → IsName d to name → IsTerm from to (Named name)
reads_name {to} {name} m n o p q = reads_named (subst (λ z. IsName z to name) (p.0 ∙ o.0 ∙ n.0 ∙ m.0) q)

pub stops_atom : {from a mid at : List Lexeme} {k : ℕ} → Misses (kind.Word KwEpsilon) from a → IsNextAt (kind.Word KwAtom) k a mid → AtomStops mid at → TermStops from at
stops_atom m p s = in_atom (next_past m (is_next p)) s

pub stops_product : {from a b mid at : List Lexeme} {k : ℕ} → Misses (kind.Word KwEpsilon) from a → Misses (kind.Word KwAtom) a b → IsNextAt (kind.Word KwProduct) k b mid → ProductStops mid at → TermStops from at
stops_product m n p s = in_product (next_past m (next_past n (is_next p))) s

pub stops_collection : {from a b c mid at : List Lexeme} {of : Kind} {k : ℕ} → Misses (kind.Word KwEpsilon) from a → Misses (kind.Word KwAtom) a b → Misses (kind.Word KwProduct) b c → IsCollectionNext of k c mid → CollectionStops mid at → TermStops from at
stops_collection m n o p s = in_collection (collection_past m (collection_past n (collection_past o p))) s

pub stops_term : {from a b c d at : List Lexeme} → Misses (kind.Word KwEpsilon) from a → Misses (kind.Word KwAtom) a b → Misses (kind.Word KwProduct) b c → MissesCollection c d → MissesName d at → TermStops from at
stops_term {from} m n o p q =
    let e = n.0 ∙ m.0 in
    let f = o.0 ∙ e in
    let g = p.0 ∙ f in
    let whole = q.0 ∙ g in
    no_term (whole, subst (No kind.Name) g q.1) (whole, m.1) (whole, subst (No (kind.Word KwAtom)) m.0 n.1) (whole, subst (No (kind.Word KwProduct)) e o.1) (whole, λ word of w. subst (No (kind.Word word)) f (p.1 word of w))

-- what stands in brackets

reads_first : {from mid rest last to : List Lexeme} {t : TypeExpr} {ts : List TypeExpr} → IsNext (kind.Mark LeftRound) from mid → IsExpr mid rest t → IsNext (kind.Mark Comma) rest last → AreFactors last to ts → AreParts from to (t ∷ ts)
reads_first next p next ps = parts p ps

pub reads_factors : {from mid rest last to : List Lexeme} {t : TypeExpr} {ts : List TypeExpr} → IsNext (kind.Mark LeftRound) from mid → IsExpr mid rest t → IsNext (kind.Mark Comma) rest last → ReadsFactors last to t ts → AreParts from to ts
reads_factors {from} {to} p q r (us, e, ps) = subst (AreParts from to) (sym e) (reads_first p q r ps)

pub reads_brackets : {of : Kind} {k : ℕ} {from mid rest to : List Lexeme} {t : TypeExpr} {b : Option Bound} → IsNext (kind.Mark LeftRound) from mid → IsExpr mid rest t → EndsCollection rest to b → IsInside of k from to (Coll of t b k)
reads_brackets next p x = inside p x

-- unions

reads_bar : {from mid rest to : List Lexeme} {t : TypeExpr} {ts : List TypeExpr} → IsTerm from mid t → IsNext (kind.Mark Bar) mid rest → AreTerms rest to ts → IsExpr from to (Union (t ∷ ts))
reads_bar p next ps = union p ps

pub reads_union : {from mid rest to : List Lexeme} {t : TypeExpr} {ts : List TypeExpr} → IsTerm from mid t → IsNext (kind.Mark Bar) mid rest → ReadsTerms rest to t ts → IsExpr from to (Union ts)
reads_union {from} {to} p q (us, e, ps) = subst (λ z. IsExpr from to (Union z)) (sym e) (reads_bar p q ps)

pub reads_one : {from mid to : List Lexeme} {t : TypeExpr} → IsTerm from mid t → Misses (kind.Mark Bar) mid to → IsExpr from to t
reads_one {from} {t} p m = one_term (subst (λ z. IsTerm from z t) (sym m.0) p)

pub ends_expr : {from at : List Lexeme} → Misses (kind.Mark Bar) from at → EndsExpr at
ends_expr m = subst (No (kind.Mark Bar)) (sym m.0) m.1

pub terms_read_shorter : {from to : List Lexeme} {t : TypeExpr} {ts : List TypeExpr} → ReadsTerms from to t ts → length to < length from
terms_read_shorter (us, e, ps) = terms_shorter ps

pub factors_read_shorter : {from to : List Lexeme} {t : TypeExpr} {ts : List TypeExpr} → ReadsFactors from to t ts → length to < length from
factors_read_shorter (us, e, ps) = factors_shorter ps

pub parts_shorter : {from to : List Lexeme} {ts : List TypeExpr} → AreParts from to ts → length to < length from
parts_shorter (parts p ps) = omega (arith, expr_shorter p, factors_shorter ps)

pub inside_shorter : {of : Kind} {k : ℕ} {from to : List Lexeme} {t : TypeExpr} → IsInside of k from to t → length to < length from
inside_shorter (inside p x) = omega (arith, expr_shorter p, end_shorter x)

-- lists that are read piece by piece

-- what is read from here on is read from the start on behind what there is
pub record TermsSoFar (start at : List Lexeme) (first : TypeExpr) (parts : List TypeExpr) : Type 0 where
  pub reads : (to : List Lexeme) (us : List TypeExpr) → AreTerms at to us → ReadsTerms start to first (parts ++ us)
  pub stops : (to : List Lexeme) → TermsStop at to → TermsStop start to
  pub no_longer : length at ≤ length start

pub record FactorsSoFar (start at : List Lexeme) (first : TypeExpr) (parts : List TypeExpr) : Type 0 where
  pub reads : (to : List Lexeme) (us : List TypeExpr) → AreFactors at to us → ReadsFactors start to first (parts ++ us)
  pub stops : (to : List Lexeme) → FactorsStop at to → FactorsStop start to
  pub no_longer : length at ≤ length start

first_of_all : {A : Type 0} (ts : List A) (t : A) (us : List A) → ts ≡ [] ++ t ∷ [] → ts ++ us ≡ t ∷ us
first_of_all ts t us e = ap (λ z. z ++ us) e

pub terms_begin : {start : List Lexeme} {first : TypeExpr} {parts : List TypeExpr} → parts ≡ [] ++ first ∷ [] → TermsSoFar start start first parts
terms_begin {first} {parts} e = record { reads = λ to us q. (us, first_of_all parts first us e, q); stops = λ to s. s; no_longer = omega arith }

pub factors_begin : {start : List Lexeme} {first : TypeExpr} {parts : List TypeExpr} → parts ≡ [] ++ first ∷ [] → FactorsSoFar start start first parts
factors_begin {first} {parts} e = record { reads = λ to us q. (us, first_of_all parts first us e, q); stops = λ to s. s; no_longer = omega arith }

one_more : {A : Type 0} (ts ts' : List A) (t : A) (us : List A) → ts' ≡ ts ++ t ∷ [] → ts' ++ us ≡ ts ++ t ∷ us
one_more ts ts' t us e = ap (λ z. z ++ us) e ∙ append_assoc ts (t ∷ []) us

last_term_past : {at mid to : List Lexeme} {t : TypeExpr} → IsTerm at mid t → Misses (kind.Mark Bar) mid to → AreTerms at to (t ∷ [])
last_term_past {at} {t} p m = last_term (subst (λ z. IsTerm at z t) (sym m.0) p)

more_terms_past : {at mid rest to : List Lexeme} {t : TypeExpr} {us : List TypeExpr} → IsTerm at mid t → IsNext (kind.Mark Bar) mid rest → AreTerms rest to us → AreTerms at to (t ∷ us)
more_terms_past p next q = more_terms p q

last_factor_past : {at mid to : List Lexeme} {t : TypeExpr} → IsExpr at mid t → IsNext (kind.Mark RightRound) mid to → AreFactors at to (t ∷ [])
last_factor_past p next = last_factor p

more_factors_past : {at mid rest to : List Lexeme} {t : TypeExpr} {us : List TypeExpr} → IsExpr at mid t → IsNext (kind.Mark Comma) mid rest → AreFactors rest to us → AreFactors at to (t ∷ us)
more_factors_past p next q = more_factors p q

pub terms_end : {start at mid to : List Lexeme} {first t : TypeExpr} {parts parts' : List TypeExpr} → TermsSoFar start at first parts → IsTerm at mid t → Misses (kind.Mark Bar) mid to → parts' ≡ parts ++ t ∷ [] → ReadsTerms start to first parts'
terms_end {start} {to} {first} so p m e = subst (ReadsTerms start to first) (sym e) (so.reads to _ (last_term_past p m))

pub terms_more : {start at mid rest : List Lexeme} {first t : TypeExpr} {parts parts' : List TypeExpr} → TermsSoFar start at first parts → IsTerm at mid t → IsNext (kind.Mark Bar) mid rest → parts' ≡ parts ++ t ∷ [] → TermsSoFar start rest first parts'
terms_more {start} {first} {t} {parts} {parts'} so p n e = record {
  reads = λ to us q. subst (ReadsTerms start to first) (sym (one_more parts parts' t us e)) (so.reads to (t ∷ us) (more_terms_past p n q));
  stops = λ to s. so.stops to (past_bar p n s);
  no_longer = omega (arith, so.no_longer, term_shorter p, next_shorter n);
}

pub factors_end : {start at mid to : List Lexeme} {first t : TypeExpr} {parts parts' : List TypeExpr} → FactorsSoFar start at first parts → IsExpr at mid t → IsNext (kind.Mark RightRound) mid to → parts' ≡ parts ++ t ∷ [] → ReadsFactors start to first parts'
factors_end {start} {to} {first} so p n e = subst (ReadsFactors start to first) (sym e) (so.reads to _ (last_factor_past p n))

pub factors_more : {start at mid rest : List Lexeme} {first t : TypeExpr} {parts parts' : List TypeExpr} → FactorsSoFar start at first parts → IsExpr at mid t → IsNext (kind.Mark Comma) mid rest → parts' ≡ parts ++ t ∷ [] → FactorsSoFar start rest first parts'
factors_more {start} {first} {t} {parts} {parts'} so p n e = record {
  reads = λ to us q. subst (ReadsFactors start to first) (sym (one_more parts parts' t us e)) (so.reads to (t ∷ us) (more_factors_past p n q));
  stops = λ to s. so.stops to (past_comma p n s);
  no_longer = omega (arith, so.no_longer, expr_shorter p, next_shorter n);
}

pub past_factor_end : {from mid rest at : List Lexeme} {t : TypeExpr} → IsExpr from mid t → EndsExpr mid → Misses (kind.Mark RightRound) mid rest → Misses (kind.Mark Comma) rest at → FactorsStop from at
past_factor_end p n r m = past_factor p n r.1 (misses_past r m)

pub ruleset term_steps = (end_shorter, weight_shorter, expr_shorter, terms_shorter, term_shorter, collection_word_shorter, reads_epsilon, reads_atom, reads_product, reads_collection, reads_name, stops_atom, stops_product, stops_collection, stops_term, reads_factors, product_left, product_first, product_comma, product_more, reads_brackets, collection_left, collection_part, collection_end, reads_union, reads_one, ends_expr, in_term, past_bar, in_factor, past_comma, past_factor_end, terms_read_shorter, factors_read_shorter, parts_shorter, inside_shorter, terms_begin, factors_begin, next_shorter, next_at_shorter, name_shorter)
