-- How names, bounds and type expressions are read: from lexemes at hand to lexemes left.
use Rattle.std.specs.Prelude.{ℕ, List, [], ◌∷◌, None, Some, Option}
use Rattle.luo_scan.specs.declared.token.Word.{Word}
use Rattle.luo_scan.specs.declared.token.Word.TheVariants.{KwEpsilon, KwAtom, KwProduct, KwSequence, KwSet, KwCycle, KwMultiset, KwPowerset, KwCard, KwIn, KwType, KwMeasure}
use Rattle.luo_scan.specs.declared.token.Mark.{Mark}
use Rattle.luo_scan.specs.declared.token.Mark.TheVariants.{Semicolon, Comma, Equals, Bar, LeftRound, RightRound, LessEqual, GreaterEqual, Dots, Colon}
use Rattle.luo_scan.specs.declared.token.TokenKind.TheVariants as kind
use Rattle.luo_scan.specs.Lexemes.{Lexeme, lexeme}
use Rattle.luo_model.specs.declared.program.Kind.{Kind}
use Rattle.luo_model.specs.declared.program.Kind.TheVariants.{Sequence, Set, Cycle, Multiset, Powerset}
use Rattle.luo_source.specs.declared.names.Name.{Name}
use Rattle.luo_source.specs.declared.types.Range.{Range}
use Rattle.luo_source.specs.declared.types.Range.TheVariants.{Exactly, AtMost, AtLeast, Between}
use Rattle.luo_source.specs.declared.types.Bound.{Bound}
use Rattle.luo_source.specs.declared.types.TypeExpr.{TypeExpr}
use Rattle.luo_source.specs.declared.types.TypeExpr.TheVariants.{Named, Epsilon, Atom, Union, Product, Coll}
use Rattle.luo_source.specs.declared.types.TypeDef.{TypeDef}
use Rattle.luo_source.specs.declared.types.MeasureDef.{MeasureDef}

-- name {"," name}, and this mark after them
pub data AreNames : Mark → List Lexeme → List Lexeme → List Name → Type 0 where
  last_name : {close : Mark} {to : List Lexeme} {text b : List ℕ} {at k : ℕ}
      → AreNames close (lexeme kind.Name text at ∷ lexeme (kind.Mark close) b k ∷ to) to
      (record { text = text; at = at } ∷ [])
  more_names : {close : Mark} {from to : List Lexeme} {text b : List ℕ} {at k : ℕ}
      {names : List Name} → AreNames close from to names
      → AreNames close (lexeme kind.Name text at ∷ lexeme (kind.Mark Comma) b k ∷ from) to
      (record { text = text; at = at } ∷ names)

-- bound = "=" num | "<=" num | ">=" num | "in" num ".." num
pub data IsRange : List Lexeme → List Lexeme → Range → Type 0 where
  exactly : {to : List Lexeme} {b c : List ℕ} {k l n : ℕ}
      → IsRange (lexeme (kind.Mark Equals) b k ∷ lexeme (kind.Number n) c l ∷ to) to (Exactly n)
  at_most : {to : List Lexeme} {b c : List ℕ} {k l n : ℕ}
      → IsRange (lexeme (kind.Mark LessEqual) b k ∷ lexeme (kind.Number n) c l ∷ to) to (AtMost n)
  at_least : {to : List Lexeme} {b c : List ℕ} {k l n : ℕ}
      → IsRange (lexeme (kind.Mark GreaterEqual) b k ∷ lexeme (kind.Number n) c l ∷ to) to
      (AtLeast n)
  between : {to : List Lexeme} {b c d e : List ℕ} {k l m o low high : ℕ}
      → IsRange (lexeme (kind.Word KwIn) b k ∷ lexeme (kind.Number low) c l ∷ lexeme
      (kind.Mark Dots) d m ∷ lexeme (kind.Number high) e o ∷ to) to (Between low high)

-- coll = "sequence" | "set" | "cycle" | "multiset" | "powerset"
pub data IsCollection : Word → Kind → Type 0 where
  sequence : IsCollection KwSequence Sequence
  set : IsCollection KwSet Set
  cycle : IsCollection KwCycle Cycle
  multiset : IsCollection KwMultiset Multiset
  powerset : IsCollection KwPowerset Powerset

-- ["," "card" bound] ")"
pub data EndsCollection : List Lexeme → List Lexeme → Option Bound → Type 0 where
  unbounded : {to : List Lexeme} {b : List ℕ} {k : ℕ}
      → EndsCollection (lexeme (kind.Mark RightRound) b k ∷ to) to None
  bounded : {from to : List Lexeme} {b c d : List ℕ} {at k l : ℕ} {range : Range}
      → IsRange from (lexeme (kind.Mark RightRound) d l ∷ to) range
      → EndsCollection (lexeme (kind.Mark Comma) b k ∷ lexeme (kind.Word KwCard) c at ∷ from) to
      (Some (record { range = range; at = at }))

mutual
  -- texpr = tterm {"|" tterm}
  pub data IsExpr : List Lexeme → List Lexeme → TypeExpr → Type 0 where
    one_term : {from to : List Lexeme} {t : TypeExpr} → IsTerm from to t → IsExpr from to t
    union : {from mid to : List Lexeme} {b : List ℕ} {k : ℕ} {t : TypeExpr} {ts : List TypeExpr}
        → IsTerm from (lexeme (kind.Mark Bar) b k ∷ mid) t → AreTerms mid to ts
        → IsExpr from to (Union (t ∷ ts))

  -- tterm {"|" tterm}
  pub data AreTerms : List Lexeme → List Lexeme → List TypeExpr → Type 0 where
    last_term : {from to : List Lexeme} {t : TypeExpr} → IsTerm from to t
        → AreTerms from to (t ∷ [])
    more_terms : {from mid to : List Lexeme} {b : List ℕ} {k : ℕ} {t : TypeExpr}
        {ts : List TypeExpr} → IsTerm from (lexeme (kind.Mark Bar) b k ∷ mid) t → AreTerms mid to ts
        → AreTerms from to (t ∷ ts)

  -- tterm = name | "epsilon" | "atom" "(" num ")" | "product" "(" texpr "," texpr {"," texpr} ")" |
  -- coll "(" texpr ["," "card" bound] ")"
  pub data IsTerm : List Lexeme → List Lexeme → TypeExpr → Type 0 where
    named : {to : List Lexeme} {text : List ℕ} {at : ℕ}
        → IsTerm (lexeme kind.Name text at ∷ to) to (Named (record { text = text; at = at }))
    epsilon : {to : List Lexeme} {b : List ℕ} {at : ℕ}
        → IsTerm (lexeme (kind.Word KwEpsilon) b at ∷ to) to (Epsilon at)
    atom : {to : List Lexeme} {b c d e : List ℕ} {at k weight_at l weight : ℕ}
        → IsTerm (lexeme (kind.Word KwAtom) b at ∷ lexeme (kind.Mark LeftRound) c k ∷ lexeme
        (kind.Number weight) d weight_at ∷ lexeme (kind.Mark RightRound) e l ∷ to) to
        (Atom weight weight_at at)
    product : {from mid to : List Lexeme} {b c d : List ℕ} {at k l : ℕ} {t : TypeExpr}
        {ts : List TypeExpr} → IsExpr from (lexeme (kind.Mark Comma) d l ∷ mid) t
        → AreFactors mid to ts
        → IsTerm (lexeme (kind.Word KwProduct) b at ∷ lexeme (kind.Mark LeftRound) c k ∷ from) to
        (Product (t ∷ ts) at)
    collection : {word : Word} {of : Kind} {from mid to : List Lexeme} {b c : List ℕ} {at k : ℕ}
        {t : TypeExpr} {bound : Option Bound} → IsCollection word of → IsExpr from mid t
        → EndsCollection mid to bound
        → IsTerm (lexeme (kind.Word word) b at ∷ lexeme (kind.Mark LeftRound) c k ∷ from) to
        (Coll of t bound at)

  -- texpr {"," texpr} ")"
  pub data AreFactors : List Lexeme → List Lexeme → List TypeExpr → Type 0 where
    last_factor : {from to : List Lexeme} {b : List ℕ} {k : ℕ} {t : TypeExpr}
        → IsExpr from (lexeme (kind.Mark RightRound) b k ∷ to) t → AreFactors from to (t ∷ [])
    more_factors : {from mid to : List Lexeme} {b : List ℕ} {k : ℕ} {t : TypeExpr}
        {ts : List TypeExpr} → IsExpr from (lexeme (kind.Mark Comma) b k ∷ mid) t
        → AreFactors mid to ts → AreFactors from to (t ∷ ts)

-- typedef = "type" name {"," name} "=" texpr ";"
pub data IsTypeDef : List Lexeme → List Lexeme → TypeDef → Type 0 where
  type_def : {from mid to : List Lexeme} {b c : List ℕ} {k l : ℕ} {names : List Name}
      {body : TypeExpr} → AreNames Equals from mid names
      → IsExpr mid (lexeme (kind.Mark Semicolon) c l ∷ to) body
      → IsTypeDef (lexeme (kind.Word KwType) b k ∷ from) to (record { names = names; body = body })

-- measure = "measure" name {"," name} ":" num ";"
pub data IsMeasure : List Lexeme → List Lexeme → MeasureDef → Type 0 where
  measure_def : {from to : List Lexeme} {b c d : List ℕ} {k l m value : ℕ} {names : List Name}
      → AreNames Colon from
      (lexeme (kind.Number value) c l ∷ lexeme (kind.Mark Semicolon) d m ∷ to) names
      → IsMeasure (lexeme (kind.Word KwMeasure) b k ∷ from) to
      (record { names = names; value = value })
