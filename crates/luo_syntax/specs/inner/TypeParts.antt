-- Parts of type expressions, as they are read one after another.
use Rattle.std.specs.Prelude.{◌≡◌, ℕ, List, ◌∷◌, Option, None, Some}
use Rattle.luo_scan.specs.declared.token.Word.{Word}
use Rattle.luo_scan.specs.declared.token.Word.TheVariants.{KwCard}
use Rattle.luo_scan.specs.declared.token.Mark.TheVariants.{Comma, LeftRound, RightRound, Dots}
use Rattle.luo_scan.specs.declared.token.TokenKind.TheVariants as kind
use Rattle.luo_scan.specs.Lexemes.{Lexeme, lexeme}
use Rattle.luo_model.specs.declared.program.Kind.{Kind}
use Rattle.luo_source.specs.declared.types.Range.{Range}
use Rattle.luo_source.specs.declared.types.Range.TheVariants.{Between}
use Rattle.luo_source.specs.declared.types.Bound.{Bound}
use Rattle.luo_source.specs.declared.types.TypeExpr.{TypeExpr}
use Rattle.luo_source.specs.declared.types.TypeExpr.TheVariants.{Coll}
use Rattle.luo_source.specs.Ends.{No}
use Rattle.luo_syntax.specs.inner.Next.{IsNextAt}
use Rattle.luo_source.specs.GrammarTypes.{IsRange, IsCollection, EndsCollection, IsExpr, AreTerms, AreFactors}

-- the word of a collection is missed here
abbrev pub MissesCollection : List Lexeme → List Lexeme → Type 0
MissesCollection from at =
    (at ≡ from) × ((word : Word) (of : Kind) → IsCollection word of → No (kind.Word word) from)

-- the word of a collection of this kind, of this number, comes next, and these come after it
pub data IsCollectionNext : Kind → ℕ → List Lexeme → List Lexeme → Type 0 where
  collection_next : {word : Word} {of : Kind} {at : ℕ} {from to : List Lexeme}
      → IsCollection word of → IsNextAt (kind.Word word) at from to → IsCollectionNext of at from to

-- the word of a collection was taken, or none comes next
abbrev pub TakesCollection : List Lexeme → List Lexeme → Option (Kind × ℕ) → Type 0
TakesCollection from to (Some (of, at)) = IsCollectionNext of at from to
TakesCollection from to None = MissesCollection from to

-- num ".." num
pub data IsBetween : List Lexeme → List Lexeme → Range → Type 0 where
  limits : {to : List Lexeme} {c d e : List ℕ} {l m o low high : ℕ}
      → IsBetween (lexeme (kind.Number low) c l ∷ lexeme (kind.Mark Dots) d m ∷ lexeme
      (kind.Number high) e o ∷ to) to (Between low high)

-- "card" bound ")"
pub data IsBound : List Lexeme → List Lexeme → Bound → Type 0 where
  a_bound : {from to : List Lexeme} {c d : List ℕ} {at l : ℕ} {range : Range}
      → IsRange from (lexeme (kind.Mark RightRound) d l ∷ to) range
      → IsBound (lexeme (kind.Word KwCard) c at ∷ from) to (record { range = range; at = at })

-- "(" num ")", with the number and its number as a lexeme
pub data IsWeight : List Lexeme → List Lexeme → ℕ × ℕ → Type 0 where
  weight : {to : List Lexeme} {c d e : List ℕ} {k at l n : ℕ}
      → IsWeight (lexeme (kind.Mark LeftRound) c k ∷ lexeme (kind.Number n) d at ∷ lexeme
      (kind.Mark RightRound) e l ∷ to) to (n, at)

-- "(" texpr "," texpr {"," texpr} ")"
pub data AreParts : List Lexeme → List Lexeme → List TypeExpr → Type 0 where
  parts : {from mid to : List Lexeme} {c d : List ℕ} {k l : ℕ} {t : TypeExpr} {ts : List TypeExpr}
      → IsExpr from (lexeme (kind.Mark Comma) d l ∷ mid) t → AreFactors mid to ts
      → AreParts (lexeme (kind.Mark LeftRound) c k ∷ from) to (t ∷ ts)

-- "(" texpr ["," "card" bound] ")", after the word of a collection of this kind, of this number
pub data IsInside : Kind → ℕ → List Lexeme → List Lexeme → TypeExpr → Type 0 where
  inside : {of : Kind} {at : ℕ} {from mid to : List Lexeme} {c : List ℕ} {k : ℕ} {t : TypeExpr}
      {b : Option Bound} → IsExpr from mid t → EndsCollection mid to b
      → IsInside of at (lexeme (kind.Mark LeftRound) c k ∷ from) to (Coll of t b at)

-- tterm {"|" tterm}, after this one
abbrev pub ReadsTerms : List Lexeme → List Lexeme → TypeExpr → List TypeExpr → Type 0
ReadsTerms from to first ts = (us : List TypeExpr) × (ts ≡ first ∷ us) × AreTerms from to us

-- texpr {"," texpr} ")", after this one
abbrev pub ReadsFactors : List Lexeme → List Lexeme → TypeExpr → List TypeExpr → Type 0
ReadsFactors from to first ts = (us : List TypeExpr) × (ts ≡ first ∷ us) × AreFactors from to us
