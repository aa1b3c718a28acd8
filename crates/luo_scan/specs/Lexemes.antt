-- Tokens with their bytes and numbers, as a grammar reads them.
use Rattle.std.specs.Prelude.{ℕ, ◌+◌, ◌-◌, List, [], ◌∷◌, take, drop}
use Rattle.luo_scan.specs.declared.token.TokenKind.{TokenKind}
use Rattle.luo_scan.specs.declared.token.Token.{Token}

-- what a token is, its bytes, and its number
pub data Lexeme : Type 0 where
  lexeme : TokenKind → List ℕ → ℕ → Lexeme

-- the lexemes of tokens that are numbered from this number on
abbrev pub lexemes_from : ℕ → List ℕ → List Token → List Lexeme
lexemes_from at text [] = []
lexemes_from at text (t ∷ ts) =
    lexeme t.kind (take (t.end - t.start) (drop t.start text)) at ∷ lexemes_from (at + 1) text ts

abbrev pub lexemes : List ℕ → List Token → List Lexeme
lexemes text tokens = lexemes_from 0 text tokens
