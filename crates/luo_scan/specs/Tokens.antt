-- A text as pieces, each the longest that begins where the one before ends, and the first fault
-- where it has none.
use Rattle.std.specs.Prelude.{◌≡◌, ◌≢◌, ℕ, ◌+◌, ◌<◌, ◌≤◌, List, [], ◌∷◌, ◌++◌, length, Option, None, Some}
use Rattle.std.specs.List.{AllByRecursion}
use Rattle.luo_num.specs.declared.limits.TheConstants.{NAME_LIMIT, NUMBER_LIMIT}
use Rattle.luo_scan.specs.declared.token.Word.{Word}
use Rattle.luo_scan.specs.declared.token.Mark.{Mark}
use Rattle.luo_scan.specs.declared.token.TokenKind.{TokenKind}
use Rattle.luo_scan.specs.declared.token.TokenKind.TheVariants as kind
use Rattle.luo_scan.specs.declared.token.Token.{Token}
use Rattle.luo_scan.specs.Bytes.{IsSeparator, IsDigit, IsLetter, IsNameByte}
use Rattle.luo_scan.specs.Spellings.{spelling, sign, value_after}

-- These bytes are one piece. None stands for what separates tokens.
pub data IsPiece : List ℕ → Option TokenKind → Type 0 where
  separator : (b : ℕ) → IsSeparator b → IsPiece (b ∷ []) None
  comment : (bytes : List ℕ) → AllByRecursion (λ b. b ≢ 10) bytes → IsPiece (37 ∷ bytes) None
  name : (b : ℕ) (bytes : List ℕ) → IsLetter b → AllByRecursion IsNameByte bytes
      → ((word : Word) → spelling word ≢ b ∷ bytes) → IsPiece (b ∷ bytes) (Some kind.Name)
  word : (word : Word) → IsPiece (spelling word) (Some (kind.Word word))
  number : (d : ℕ) (ds : List ℕ) → IsDigit d → AllByRecursion IsDigit ds → (d ≡ 48 → ds ≡ [])
      → IsPiece (d ∷ ds) (Some (kind.Number (value_after 0 (d ∷ ds))))
  mark : (mark : Mark) → IsPiece (sign mark) (Some (kind.Mark mark))

-- the text begins with this piece and with no longer one, and the rest follows
pub record Begins (text piece rest : List ℕ) (what : Option TokenKind) : Type 0 where
  pub whole : text ≡ piece ++ rest
  pub is : IsPiece piece what
  pub longest : (other after : List ℕ) (that : Option TokenKind) → text ≡ other ++ after
      → IsPiece other that → length other ≤ length piece

-- no piece begins the text
abbrev pub BeginsNot : List ℕ → Type 0
BeginsNot text =
    (piece rest : List ℕ) (what : Option TokenKind) → text ≡ piece ++ rest → IsPiece piece what → ⊥

-- a name and a number are within their limits
abbrev pub IsWithin : List ℕ → TokenKind → Type 0
IsWithin piece kind.Name = length piece ≤ NAME_LIMIT
IsWithin piece (kind.Number n) = n ≤ NUMBER_LIMIT
IsWithin piece (kind.Word w) = Unit {0}
IsWithin piece (kind.Mark m) = Unit {0}

-- the tokens of a text that begins at this byte
pub data TokensFrom : ℕ → List ℕ → List Token → Type 0 where
  at_end : {at : ℕ} → TokensFrom at [] []
  skipped : {at : ℕ} {text : List ℕ} {tokens : List Token} (piece rest : List ℕ)
      → Begins text piece rest None → TokensFrom (at + length piece) rest tokens
      → TokensFrom at text tokens
  taken : {at : ℕ} {text : List ℕ} {tokens : List Token} (piece rest : List ℕ) (kind : TokenKind)
      → Begins text piece rest (Some kind) → IsWithin piece kind
      → TokensFrom (at + length piece) rest tokens
      → TokensFrom at text (record { kind = kind; start = at; end = at + length piece } ∷ tokens)

-- the tokens of a text
abbrev pub Tokens : List ℕ → List Token → Type 0
Tokens text tokens = TokensFrom 0 text tokens

-- a byte where no piece begins, a name that is too long, and a number that is too large
pub data LexicalFault : Type 0 where
  bad_byte : LexicalFault
  long_name : LexicalFault
  large_number : LexicalFault

-- the first fault of a text that begins at this byte, and the byte where it begins
pub data FaultFrom : ℕ → List ℕ → LexicalFault → ℕ → Type 0 where
  no_piece : {at : ℕ} {b : ℕ} {text : List ℕ} → BeginsNot (b ∷ text)
      → FaultFrom at (b ∷ text) bad_byte at
  name_limit : {at : ℕ} {text : List ℕ} (piece rest : List ℕ)
      → Begins text piece rest (Some kind.Name) → NAME_LIMIT < length piece
      → FaultFrom at text long_name at
  number_limit : {at : ℕ} {text : List ℕ} (piece rest : List ℕ) (n : ℕ)
      → Begins text piece rest (Some (kind.Number n)) → NUMBER_LIMIT < n
      → FaultFrom at text large_number at
  behind_separator : {at place : ℕ} {text : List ℕ} {fault : LexicalFault} (piece rest : List ℕ)
      → Begins text piece rest None → FaultFrom (at + length piece) rest fault place
      → FaultFrom at text fault place
  behind_token : {at place : ℕ} {text : List ℕ} {fault : LexicalFault} (piece rest : List ℕ)
      (kind : TokenKind) → Begins text piece rest (Some kind) → IsWithin piece kind
      → FaultFrom (at + length piece) rest fault place → FaultFrom at text fault place

-- the first lexical fault of a text, and the byte where it begins
abbrev pub FirstFault : List ℕ → LexicalFault → ℕ → Type 0
FirstFault text fault place = FaultFrom 0 text fault place
