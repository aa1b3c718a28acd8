-- Where reading bounds, type expressions and definitions stops.
use Rattle.std.specs.Prelude.{ℕ, List}
use Rattle.luo_scan.specs.declared.token.Word.TheVariants.{KwEpsilon, KwAtom, KwProduct, KwCard, KwIn, KwType, KwMeasure}
use Rattle.luo_scan.specs.declared.token.Mark.TheVariants.{Semicolon, Comma, Equals, Bar, LeftRound, RightRound, LessEqual, GreaterEqual, Dots, Colon}
use Rattle.luo_scan.specs.declared.token.TokenKind.TheVariants as kind
use Rattle.luo_scan.specs.Lexemes.{Lexeme}
use Rattle.luo_model.specs.declared.program.Kind.{Kind}
use Rattle.luo_source.specs.declared.names.Name.{Name}
use Rattle.luo_source.specs.declared.types.Range.{Range}
use Rattle.luo_source.specs.declared.types.TypeExpr.{TypeExpr}
use Rattle.luo_source.specs.Ends.{No, EndsExpr}
use Rattle.luo_syntax.specs.inner.Next.{IsNext, Misses, MissesName, MissesNumber}
use Rattle.luo_source.specs.GrammarTypes.{AreNames, IsRange, IsExpr, IsTerm}
use Rattle.luo_syntax.specs.inner.TypeParts.{IsCollectionNext, MissesCollection}
use Rattle.luo_syntax.specs.inner.StopsNames.{NamesStop}

-- num ".." num is being read from these lexemes, and can't go on at those; so in each relation that
-- follows
pub data BetweenStops : List Lexeme → List Lexeme → Type 0 where
  low_number : {from at : List Lexeme} → MissesNumber from at → BetweenStops from at
  between_dots : {from mid at : List Lexeme} {low : ℕ} → IsNext (kind.Number low) from mid
      → Misses (kind.Mark Dots) mid at → BetweenStops from at
  high_number : {from mid next at : List Lexeme} {low : ℕ} → IsNext (kind.Number low) from mid
      → IsNext (kind.Mark Dots) mid next → MissesNumber next at → BetweenStops from at

-- "=" num | "<=" num | ">=" num | "in" num ".." num
pub data RangeStops : List Lexeme → List Lexeme → Type 0 where
  no_range : {from at : List Lexeme} → Misses (kind.Mark Equals) from at
      → Misses (kind.Mark LessEqual) from at → Misses (kind.Mark GreaterEqual) from at
      → Misses (kind.Word KwIn) from at → RangeStops from at
  exactly_number : {from mid at : List Lexeme} → IsNext (kind.Mark Equals) from mid
      → MissesNumber mid at → RangeStops from at
  at_most_number : {from mid at : List Lexeme} → IsNext (kind.Mark LessEqual) from mid
      → MissesNumber mid at → RangeStops from at
  at_least_number : {from mid at : List Lexeme} → IsNext (kind.Mark GreaterEqual) from mid
      → MissesNumber mid at → RangeStops from at
  in_between : {from mid at : List Lexeme} → IsNext (kind.Word KwIn) from mid → BetweenStops mid at
      → RangeStops from at

-- "card" bound ")"
pub data BoundStops : List Lexeme → List Lexeme → Type 0 where
  bound_card : {from at : List Lexeme} → Misses (kind.Word KwCard) from at → BoundStops from at
  bound_range : {from mid at : List Lexeme} → IsNext (kind.Word KwCard) from mid → RangeStops mid at
      → BoundStops from at
  bound_right : {from mid next at : List Lexeme} {range : Range}
      → IsNext (kind.Word KwCard) from mid → IsRange mid next range
      → Misses (kind.Mark RightRound) next at → BoundStops from at

-- ["," "card" bound] ")"
pub data EndStops : List Lexeme → List Lexeme → Type 0 where
  no_end : {from at : List Lexeme} → Misses (kind.Mark Comma) from at
      → Misses (kind.Mark RightRound) from at → EndStops from at
  in_bound : {from mid at : List Lexeme} → IsNext (kind.Mark Comma) from mid → BoundStops mid at
      → EndStops from at

-- "(" num ")"
pub data AtomStops : List Lexeme → List Lexeme → Type 0 where
  atom_left : {from at : List Lexeme} → Misses (kind.Mark LeftRound) from at → AtomStops from at
  atom_number : {from mid at : List Lexeme} → IsNext (kind.Mark LeftRound) from mid
      → MissesNumber mid at → AtomStops from at
  atom_right : {from mid next at : List Lexeme} {n : ℕ} → IsNext (kind.Mark LeftRound) from mid
      → IsNext (kind.Number n) mid next → Misses (kind.Mark RightRound) next at → AtomStops from at

mutual
  -- tterm {"|" tterm}
  pub data TermsStop : List Lexeme → List Lexeme → Type 0 where
    in_term : {from at : List Lexeme} → TermStops from at → TermsStop from at
    past_bar : {from next mid at : List Lexeme} {t : TypeExpr} → IsTerm from next t
        → IsNext (kind.Mark Bar) next mid → TermsStop mid at → TermsStop from at

  -- tterm
  pub data TermStops : List Lexeme → List Lexeme → Type 0 where
    no_term : {from at : List Lexeme} → MissesName from at → Misses (kind.Word KwEpsilon) from at
        → Misses (kind.Word KwAtom) from at → Misses (kind.Word KwProduct) from at
        → MissesCollection from at → TermStops from at
    in_atom : {from mid at : List Lexeme} → IsNext (kind.Word KwAtom) from mid → AtomStops mid at
        → TermStops from at
    in_product : {from mid at : List Lexeme} → IsNext (kind.Word KwProduct) from mid
        → ProductStops mid at → TermStops from at
    in_collection : {from mid at : List Lexeme} {of : Kind} {k : ℕ} → IsCollectionNext of k from mid
        → CollectionStops mid at → TermStops from at

  -- "(" texpr "," texpr {"," texpr} ")"
  pub data ProductStops : List Lexeme → List Lexeme → Type 0 where
    product_left : {from at : List Lexeme} → Misses (kind.Mark LeftRound) from at
        → ProductStops from at
    product_first : {from mid at : List Lexeme} → IsNext (kind.Mark LeftRound) from mid
        → TermsStop mid at → ProductStops from at
    product_comma : {from mid next at : List Lexeme} {t : TypeExpr}
        → IsNext (kind.Mark LeftRound) from mid → IsExpr mid next t → EndsExpr next
        → Misses (kind.Mark Comma) next at → ProductStops from at
    product_more : {from mid next rest at : List Lexeme} {t : TypeExpr}
        → IsNext (kind.Mark LeftRound) from mid → IsExpr mid next t
        → IsNext (kind.Mark Comma) next rest → FactorsStop rest at → ProductStops from at

  -- texpr {"," texpr} ")"
  pub data FactorsStop : List Lexeme → List Lexeme → Type 0 where
    in_factor : {from at : List Lexeme} → TermsStop from at → FactorsStop from at
    past_factor : {from next at : List Lexeme} {t : TypeExpr} → IsExpr from next t → EndsExpr next
        → No (kind.Mark RightRound) next → Misses (kind.Mark Comma) next at → FactorsStop from at
    past_comma : {from next rest at : List Lexeme} {t : TypeExpr} → IsExpr from next t
        → IsNext (kind.Mark Comma) next rest → FactorsStop rest at → FactorsStop from at

  -- "(" texpr ["," "card" bound] ")"
  pub data CollectionStops : List Lexeme → List Lexeme → Type 0 where
    collection_left : {from at : List Lexeme} → Misses (kind.Mark LeftRound) from at
        → CollectionStops from at
    collection_part : {from mid at : List Lexeme} → IsNext (kind.Mark LeftRound) from mid
        → TermsStop mid at → CollectionStops from at
    collection_end : {from mid next at : List Lexeme} {t : TypeExpr}
        → IsNext (kind.Mark LeftRound) from mid → IsExpr mid next t → EndsExpr next
        → EndStops next at → CollectionStops from at

-- "type" name {"," name} "=" texpr ";"
pub data TypeDefStops : List Lexeme → List Lexeme → Type 0 where
  no_type : {from at : List Lexeme} → Misses (kind.Word KwType) from at → TypeDefStops from at
  type_names : {from mid at : List Lexeme} → IsNext (kind.Word KwType) from mid
      → NamesStop Equals mid at → TypeDefStops from at
  type_body : {from mid next at : List Lexeme} {names : List Name}
      → IsNext (kind.Word KwType) from mid → AreNames Equals mid next names → TermsStop next at
      → TypeDefStops from at
  type_end : {from mid next rest at : List Lexeme} {names : List Name} {t : TypeExpr}
      → IsNext (kind.Word KwType) from mid → AreNames Equals mid next names → IsExpr next rest t
      → EndsExpr rest → Misses (kind.Mark Semicolon) rest at → TypeDefStops from at

-- "measure" name {"," name} ":" num ";"
pub data MeasureStops : List Lexeme → List Lexeme → Type 0 where
  no_measure : {from at : List Lexeme} → Misses (kind.Word KwMeasure) from at → MeasureStops from at
  measure_names : {from mid at : List Lexeme} → IsNext (kind.Word KwMeasure) from mid
      → NamesStop Colon mid at → MeasureStops from at
  measure_number : {from mid next at : List Lexeme} {names : List Name}
      → IsNext (kind.Word KwMeasure) from mid → AreNames Colon mid next names → MissesNumber next at
      → MeasureStops from at
  measure_end : {from mid next rest at : List Lexeme} {names : List Name} {value : ℕ}
      → IsNext (kind.Word KwMeasure) from mid → AreNames Colon mid next names
      → IsNext (kind.Number value) next rest → Misses (kind.Mark Semicolon) rest at
      → MeasureStops from at
