-- What holds of the tokens and the faults of every text.
use Rattle.std.specs.Prelude.{◌≡◌, ◌⊎◌, ℕ, List, length, Some}
use Rattle.std.specs.List.{AllByRecursion}
use Rattle.luo_scan.specs.declared.token.Token.{Token}
use Rattle.luo_scan.specs.Faults.{AllInside}
use Rattle.luo_scan.specs.Lexemes.{Lexeme, lexeme, lexemes}
use Rattle.luo_scan.specs.Tokens.{Tokens, IsPiece, IsWithin, LexicalFault, FirstFault}

-- a text has at most one list of tokens
abbrev pub TokensAreUnique : Type 0
TokensAreUnique =
    (text : List ℕ) (one two : List Token) → Tokens text one → Tokens text two → one ≡ two

-- a text has at most one first fault, at one place
abbrev pub FaultIsUnique : Type 0
FaultIsUnique =
    (text : List ℕ) (one two : LexicalFault) (here there : ℕ) → FirstFault text one here
    → FirstFault text two there → (one ≡ two) × (here ≡ there)

-- a text has tokens or a first fault
abbrev pub TokensOrFault : Type 0
TokensOrFault =
    (text : List ℕ)
    → ((tokens : List Token) × Tokens text tokens)
    ⊎ ((fault : LexicalFault) × (place : ℕ) × FirstFault text fault place)

-- a text with tokens has no fault
abbrev pub NeverBoth : Type 0
NeverBoth =
    (text : List ℕ) (tokens : List Token) (fault : LexicalFault) (place : ℕ) → Tokens text tokens
    → FirstFault text fault place → ⊥

-- each token lies inside the text
abbrev pub TokensLieInside : Type 0
TokensLieInside =
    (text : List ℕ) (tokens : List Token) → Tokens text tokens → AllInside (length text) tokens

-- the bytes of a lexeme are a piece of its kind, and within the limits of names and numbers
abbrev pub IsFit : Lexeme → Type 0
IsFit (lexeme kind bytes at) = IsPiece bytes (Some kind) × IsWithin bytes kind

-- each lexeme of a text is one of its pieces, within the limits
abbrev pub LexemesAreFit : Type 0
LexemesAreFit =
    (text : List ℕ) (tokens : List Token) → Tokens text tokens
    → AllByRecursion IsFit (lexemes text tokens)
