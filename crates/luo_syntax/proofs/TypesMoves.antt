-- Type expressions and definitions that are read are read before other lists too.
use Rattle.std.proofs.Common.{Option, List, ◌∷◌, refl, ap, ◌∙◌}
use Rattle.luo_scan.specs.declared.token.Word.TheVariants.{KwEpsilon, KwAtom, KwProduct, KwCard, KwIn, KwType, KwMeasure}
use Rattle.luo_scan.specs.declared.token.Mark.TheVariants.{Semicolon, Comma, Equals, Bar, LeftRound, RightRound, LessEqual, GreaterEqual, Dots}
use Rattle.luo_scan.specs.declared.token.TokenKind.TheVariants as kind
use Rattle.luo_scan.specs.Lexemes.{Lexeme, lexeme}
use Rattle.luo_source.specs.declared.types.Range.{Range}
use Rattle.luo_source.specs.declared.types.Bound.{Bound}
use Rattle.luo_source.specs.declared.types.TypeExpr.{TypeExpr}
use Rattle.luo_source.specs.declared.types.TypeDef.{TypeDef}
use Rattle.luo_source.specs.declared.types.MeasureDef.{MeasureDef}
use Rattle.luo_source.specs.GrammarTypes.{IsRange, exactly, at_most, at_least, between, EndsCollection, unbounded, bounded, IsExpr, one_term, union, AreTerms, last_term, more_terms, IsTerm, named, epsilon, atom, product, collection, AreFactors, last_factor, more_factors, IsTypeDef, type_def, IsMeasure, measure_def}
use Rattle.luo_syntax.proofs.Prefixes.{nothing, put, both, Moves}
use Rattle.luo_syntax.proofs.NamesMoves.{names_moves}

pub range_moves : {from to : List Lexeme} {r : Range} → IsRange from to r → Moves (λ a b. IsRange a b r) from to
range_moves (exactly {b} {c} {k} {l} {n}) = record { prefix = put (lexeme (kind.Mark Equals) b k) (put (lexeme (kind.Number n) c l) nothing); cut = refl; moves = λ o. exactly }
range_moves (at_most {b} {c} {k} {l} {n}) = record { prefix = put (lexeme (kind.Mark LessEqual) b k) (put (lexeme (kind.Number n) c l) nothing); cut = refl; moves = λ o. at_most }
range_moves (at_least {b} {c} {k} {l} {n}) = record { prefix = put (lexeme (kind.Mark GreaterEqual) b k) (put (lexeme (kind.Number n) c l) nothing); cut = refl; moves = λ o. at_least }
range_moves (between {b} {c} {d} {e} {k} {l} {m} {o} {low} {high}) = record {
  prefix = put (lexeme (kind.Word KwIn) b k) (put (lexeme (kind.Number low) c l) (put (lexeme (kind.Mark Dots) d m) (put (lexeme (kind.Number high) e o) nothing)));
  cut = refl;
  moves = λ ls. between;
}

pub end_moves : {from to : List Lexeme} {b : Option Bound} → EndsCollection from to b → Moves (λ a c. EndsCollection a c b) from to
end_moves (unbounded {b} {k}) = record { prefix = put (lexeme (kind.Mark RightRound) b k) nothing; cut = refl; moves = λ o. unbounded }
end_moves (bounded {b} {c} {d} {at} {k} {l} p) = let m = range_moves p in record {
  prefix = put (lexeme (kind.Mark Comma) b k) (put (lexeme (kind.Word KwCard) c at) (both m.prefix (put (lexeme (kind.Mark RightRound) d l) nothing)));
  cut = ap (λ z. lexeme (kind.Mark Comma) b k ∷ lexeme (kind.Word KwCard) c at ∷ z) m.cut;
  moves = λ o. bounded (m.moves _);
}

mutual
  pub expr_moves : {from to : List Lexeme} {t : TypeExpr} → IsExpr from to t → Moves (λ a b. IsExpr a b t) from to
  expr_moves (one_term p) = let m = term_moves p in record { prefix = m.prefix; cut = m.cut; moves = λ o. one_term (m.moves o) }
  expr_moves (union {b} {k} p ps) = let m = term_moves p in let n = terms_moves ps in record {
    prefix = both m.prefix (put (lexeme (kind.Mark Bar) b k) n.prefix);
    cut = m.cut ∙ ap (λ z. m.prefix.before (lexeme (kind.Mark Bar) b k ∷ z)) n.cut;
    moves = λ o. union (m.moves _) (n.moves o);
  }

  pub terms_moves : {from to : List Lexeme} {ts : List TypeExpr} → AreTerms from to ts → Moves (λ a b. AreTerms a b ts) from to
  terms_moves (last_term p) = let m = term_moves p in record { prefix = m.prefix; cut = m.cut; moves = λ o. last_term (m.moves o) }
  terms_moves (more_terms {b} {k} p ps) = let m = term_moves p in let n = terms_moves ps in record {
    prefix = both m.prefix (put (lexeme (kind.Mark Bar) b k) n.prefix);
    cut = m.cut ∙ ap (λ z. m.prefix.before (lexeme (kind.Mark Bar) b k ∷ z)) n.cut;
    moves = λ o. more_terms (m.moves _) (n.moves o);
  }

  pub term_moves : {from to : List Lexeme} {t : TypeExpr} → IsTerm from to t → Moves (λ a b. IsTerm a b t) from to
  term_moves (named {text} {at}) = record { prefix = put (lexeme kind.Name text at) nothing; cut = refl; moves = λ o. named }
  term_moves (epsilon {b} {at}) = record { prefix = put (lexeme (kind.Word KwEpsilon) b at) nothing; cut = refl; moves = λ o. epsilon }
  term_moves (atom {b} {c} {d} {e} {at} {k} {weight_at} {l} {weight}) = record {
    prefix = put (lexeme (kind.Word KwAtom) b at) (put (lexeme (kind.Mark LeftRound) c k) (put (lexeme (kind.Number weight) d weight_at) (put (lexeme (kind.Mark RightRound) e l) nothing)));
    cut = refl;
    moves = λ o. atom;
  }
  term_moves (product {b} {c} {d} {at} {k} {l} p ps) = let m = expr_moves p in let n = factors_moves ps in record {
    prefix = put (lexeme (kind.Word KwProduct) b at) (put (lexeme (kind.Mark LeftRound) c k) (both m.prefix (put (lexeme (kind.Mark Comma) d l) n.prefix)));
    cut = ap (λ z. lexeme (kind.Word KwProduct) b at ∷ lexeme (kind.Mark LeftRound) c k ∷ z) (m.cut ∙ ap (λ z. m.prefix.before (lexeme (kind.Mark Comma) d l ∷ z)) n.cut);
    moves = λ o. product (m.moves _) (n.moves o);
  }
  term_moves (collection {word} {b} {c} {at} {k} w p x) = let m = expr_moves p in let n = end_moves x in record {
    prefix = put (lexeme (kind.Word word) b at) (put (lexeme (kind.Mark LeftRound) c k) (both m.prefix n.prefix));
    cut = ap (λ z. lexeme (kind.Word word) b at ∷ lexeme (kind.Mark LeftRound) c k ∷ z) (m.cut ∙ ap m.prefix.before n.cut);
    moves = λ o. collection w (m.moves _) (n.moves o);
  }

  pub factors_moves : {from to : List Lexeme} {ts : List TypeExpr} → AreFactors from to ts → Moves (λ a b. AreFactors a b ts) from to
  factors_moves (last_factor {b} {k} p) = let m = expr_moves p in record { prefix = both m.prefix (put (lexeme (kind.Mark RightRound) b k) nothing); cut = m.cut; moves = λ o. last_factor (m.moves _) }
  factors_moves (more_factors {b} {k} p ps) = let m = expr_moves p in let n = factors_moves ps in record {
    prefix = both m.prefix (put (lexeme (kind.Mark Comma) b k) n.prefix);
    cut = m.cut ∙ ap (λ z. m.prefix.before (lexeme (kind.Mark Comma) b k ∷ z)) n.cut;
    moves = λ o. more_factors (m.moves _) (n.moves o);
  }

pub type_def_moves : {from to : List Lexeme} {d : TypeDef} → IsTypeDef from to d → Moves (λ a b. IsTypeDef a b d) from to
type_def_moves (type_def {b} {c} {k} {l} p q) = let m = names_moves p in let n = expr_moves q in record {
  prefix = put (lexeme (kind.Word KwType) b k) (both m.prefix (both n.prefix (put (lexeme (kind.Mark Semicolon) c l) nothing)));
  cut = ap (λ z. lexeme (kind.Word KwType) b k ∷ z) (m.cut ∙ ap m.prefix.before n.cut);
  moves = λ o. type_def (m.moves _) (n.moves _);
}

pub measure_moves : {from to : List Lexeme} {d : MeasureDef} → IsMeasure from to d → Moves (λ a b. IsMeasure a b d) from to
measure_moves (measure_def {b} {c} {d} {k} {l} {m} {value} p) = let n = names_moves p in record {
  prefix = put (lexeme (kind.Word KwMeasure) b k) (both n.prefix (put (lexeme (kind.Number value) c l) (put (lexeme (kind.Mark Semicolon) d m) nothing)));
  cut = ap (λ z. lexeme (kind.Word KwMeasure) b k ∷ z) n.cut;
  moves = λ o. measure_def (n.moves _);
}
