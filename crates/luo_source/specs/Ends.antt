-- What does not come next among lexemes.
use Rattle.std.specs.Prelude.{◌≡◌, ℕ, List, ◌∷◌}
use Rattle.luo_scan.specs.declared.token.Word.TheVariants.{KwAs, KwAtom}
use Rattle.luo_scan.specs.declared.token.Mark.TheVariants.{Bar, LeftRound}
use Rattle.luo_scan.specs.declared.token.TokenKind.{TokenKind}
use Rattle.luo_scan.specs.declared.token.TokenKind.TheVariants as kind
use Rattle.luo_scan.specs.Lexemes.{Lexeme, lexeme}

-- no lexeme of this kind comes next
abbrev pub No : TokenKind → List Lexeme → Type 0
No what ls = (bytes : List ℕ) (at : ℕ) (rest : List Lexeme) → ls ≡ lexeme what bytes at ∷ rest → ⊥

-- a type expression isn't gone on with here
abbrev pub EndsExpr : List Lexeme → Type 0
EndsExpr ls = No (kind.Mark Bar) ls

-- a pattern isn't gone on with here
abbrev pub EndsPattern : List Lexeme → Type 0
EndsPattern ls = No (kind.Word KwAs) ls × No (kind.Mark LeftRound) ls

-- a statement isn't gone on with here
abbrev pub EndsSimple : List Lexeme → Type 0
EndsSimple ls = No (kind.Mark LeftRound) ls

-- a value isn't gone on with here
abbrev pub EndsValue : List Lexeme → Type 0
EndsValue ls = No (kind.Mark LeftRound) ls × No (kind.Word KwAtom) ls
