-- What comes next among lexemes, and what a step of reading does.
use Rattle.std.specs.Prelude.{◌≡◌, ℕ, List, [], ◌∷◌, Bool, true, false, Option, None, Some}
use Rattle.luo_scan.specs.declared.token.TokenKind.{TokenKind}
use Rattle.luo_scan.specs.declared.token.TokenKind.TheVariants as kind
use Rattle.luo_scan.specs.Lexemes.{Lexeme, lexeme}
use Rattle.luo_source.specs.Ends.{No}
use Rattle.luo_source.specs.declared.names.Name.{Name}
use Rattle.luo_syntax.specs.declared.fault.Fault.{Fault}
use Rattle.luo_syntax.specs.declared.fault.Fault.TheVariants.{Stops}

-- a lexeme of this kind comes next, and these come after it
pub data IsNext : TokenKind → List Lexeme → List Lexeme → Type 0 where
  next : {what : TokenKind} {bytes : List ℕ} {at : ℕ} {to : List Lexeme}
      → IsNext what (lexeme what bytes at ∷ to) to

-- a lexeme of this kind and this number comes next, and these come after it
pub data IsNextAt : TokenKind → ℕ → List Lexeme → List Lexeme → Type 0 where
  next_at : {what : TokenKind} {bytes : List ℕ} {at : ℕ} {to : List Lexeme}
      → IsNextAt what at (lexeme what bytes at ∷ to) to

-- this name comes next, and these come after it
pub data IsName : List Lexeme → List Lexeme → Name → Type 0 where
  next_name : {text : List ℕ} {at : ℕ} {to : List Lexeme}
      → IsName (lexeme kind.Name text at ∷ to) to (record { text = text; at = at })

-- no name comes next
abbrev pub NoName : List Lexeme → Type 0
NoName ls = No kind.Name ls

-- no number comes next
abbrev pub NoNumber : List Lexeme → Type 0
NoNumber ls = (n : ℕ) → No (kind.Number n) ls

-- a lexeme of this kind is missed here
abbrev pub Misses : TokenKind → List Lexeme → List Lexeme → Type 0
Misses what from at = (at ≡ from) × No what from

-- a name is missed here
abbrev pub MissesName : List Lexeme → List Lexeme → Type 0
MissesName from at = Misses kind.Name from at

-- a number is missed here
abbrev pub MissesNumber : List Lexeme → List Lexeme → Type 0
MissesNumber from at = (at ≡ from) × NoNumber from

-- if reading stops, then so
abbrev pub OnStop : Fault → Type 0 → Type 0
OnStop f P = f ≡ Stops → P

-- a lexeme of this kind was taken, or doesn't come next
abbrev pub Takes : TokenKind → List Lexeme → List Lexeme → Bool → Type 0
Takes what from to true = IsNext what from to
Takes what from to false = Misses what from to

-- a lexeme of this kind and of this number was taken, or none comes next
abbrev pub TakesAt : TokenKind → List Lexeme → List Lexeme → Option ℕ → Type 0
TakesAt what from to (Some at) = IsNextAt what at from to
TakesAt what from to None = Misses what from to

-- a lexeme of this kind comes next, or doesn't
abbrev pub Sees : TokenKind → List Lexeme → Bool → Type 0
Sees what ls true = (rest : List Lexeme) × IsNext what ls rest
Sees what ls false = No what ls

-- nothing is left, or something is
abbrev pub Ends : List Lexeme → Bool → Type 0
Ends ls true = ls ≡ []
Ends ls false = ls ≡ [] → ⊥

-- a number and its number as a lexeme were taken, or no number comes next
abbrev pub TakesNumber : List Lexeme → List Lexeme → Option (ℕ × ℕ) → Type 0
TakesNumber from to (Some (n, at)) = IsNextAt (kind.Number n) at from to
TakesNumber from to None = MissesNumber from to

-- the bytes of the first lexeme
abbrev pub first_bytes : List Lexeme → List ℕ
first_bytes [] = []
first_bytes (lexeme what bytes at ∷ ls) = bytes

-- what was taken, said by an equation
abbrev pub TakesKind : TokenKind → List Lexeme → List Lexeme → Option ℕ → Type 0
TakesKind what from to (Some at) = from ≡ lexeme what (first_bytes from) at ∷ to
TakesKind what from to None = Misses what from to

-- what number was taken, said by an equation
abbrev pub TakesAnyNumber : List Lexeme → List Lexeme → Option (ℕ × ℕ) → Type 0
TakesAnyNumber from to (Some (n, at)) = from ≡ lexeme (kind.Number n) (first_bytes from) at ∷ to
TakesAnyNumber from to None = MissesNumber from to

-- what the first lexeme is
abbrev pub first_kind : List Lexeme → Option TokenKind
first_kind [] = None
first_kind (lexeme what bytes at ∷ ls) = Some what

-- what comes next, said by an equation
abbrev pub SeesKind : TokenKind → List Lexeme → Bool → Type 0
SeesKind what ls true = first_kind ls ≡ Some what
SeesKind what ls false = No what ls
