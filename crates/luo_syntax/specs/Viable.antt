-- Which prefixes begin a program, and what an error says.
use Rattle.std.specs.Prelude.{ℕ, ◌+◌, ◌≤◌, ◌<◌, List, [], ◌∷◌, ◌++◌, take, length}
use Rattle.std.specs.List.{AllByRecursion}
use Rattle.luo_num.specs.declared.limits.TheConstants.{DEPTH_LIMIT}
use Rattle.luo_scan.specs.declared.token.Word.TheVariants.{KwBegin, KwCase, KwEnd}
use Rattle.luo_scan.specs.declared.token.Mark.TheVariants.{LeftRound, RightRound}
use Rattle.luo_scan.specs.declared.token.TokenKind.{TokenKind}
use Rattle.luo_scan.specs.declared.token.TokenKind.TheVariants as kind
use Rattle.luo_scan.specs.Lexemes.{Lexeme, lexeme}
use Rattle.luo_scan.specs.Laws.{IsFit}
use Rattle.luo_syntax.specs.declared.error.SyntaxError.{SyntaxError}
use Rattle.luo_syntax.specs.declared.error.SyntaxError.TheVariants.{Grammar, Depth, NoMemory}
use Rattle.luo_source.specs.declared.source.Source.{Source}
use Rattle.luo_source.specs.Grammar.{IsProgram}

-- each of these lexemes is spelled as the language spells it, within the limits of names and
-- numbers
abbrev pub AllSpelled : List Lexeme → Type 0
AllSpelled ls = AllByRecursion IsFit ls

-- no program has these lexemes
abbrev pub IsNoProgram : List Lexeme → Type 0
IsNoProgram ls = (s : Source) → IsProgram ls [] s → ⊥

-- these lexemes begin some program
abbrev pub IsViable : List Lexeme → Type 0
IsViable prefix =
    (more : List Lexeme) × AllSpelled more × (s : Source) × IsProgram (prefix ++ more) [] s

-- the prefix of this length is the longest that begins some program
pub record IsLongestViable (ls : List Lexeme) (k : ℕ) : Type 0 where
  pub within : k ≤ length ls
  pub viable : IsViable (take k ls)
  pub longest : (j : ℕ) → k < j → j ≤ length ls → IsViable (take j ls) → ⊥

-- 1 for `(`, `begin` and `case`
abbrev pub opens_kind : TokenKind → ℕ
opens_kind (kind.Mark LeftRound) = 1
opens_kind (kind.Word KwBegin) = 1
opens_kind (kind.Word KwCase) = 1
opens_kind other = 0

-- 1 for `)` and `end`
abbrev pub closes_kind : TokenKind → ℕ
closes_kind (kind.Mark RightRound) = 1
closes_kind (kind.Word KwEnd) = 1
closes_kind other = 0

abbrev pub opens : Lexeme → ℕ
opens (lexeme what bytes at) = opens_kind what

abbrev pub closes : Lexeme → ℕ
closes (lexeme what bytes at) = closes_kind what

-- how many of these lexemes open
abbrev pub opened : List Lexeme → ℕ
opened [] = 0
opened (l ∷ ls) = opens l + opened ls

-- how many of these lexemes close
abbrev pub closed : List Lexeme → ℕ
closed [] = 0
closed (l ∷ ls) = closes l + closed ls

-- after these lexemes more than the limit are open
abbrev pub IsDeep : List Lexeme → Type 0
IsDeep prefix = closed prefix + DEPTH_LIMIT < opened prefix

-- nowhere among these lexemes more than the limit are open
abbrev pub IsShallow : List Lexeme → Type 0
IsShallow ls = (j : ℕ) → j ≤ length ls → IsDeep (take j ls) → ⊥

-- this is the first lexeme with which more than the limit are open
abbrev pub IsFirstDeep : List Lexeme → ℕ → Type 0
IsFirstDeep ls k =
    (k < length ls) × IsDeep (take (k + 1) ls) × ((j : ℕ) → j ≤ k → IsDeep (take j ls) → ⊥)

-- with this lexeme more than the limit are open for the first time, and up to and with it some
-- program begins so
abbrev pub IsDeepAt : List Lexeme → ℕ → Type 0
IsDeepAt ls k = IsFirstDeep ls k × IsViable (take (k + 1) ls)

-- why a whole list isn't read, where nothing is too deep
abbrev pub StopsWhole : List Lexeme → SyntaxError → Type 0
StopsWhole ls (Grammar k) = IsLongestViable ls k × IsNoProgram ls
StopsWhole ls (Depth k) = ⊥
StopsWhole ls NoMemory = Unit {0}

-- an error says where the longest prefix ends that begins some program, or where too many are open;
-- that memory ran out says nothing of the lexemes
abbrev pub Explains : List Lexeme → SyntaxError → Type 0
Explains ls (Grammar k) = IsLongestViable ls k × IsNoProgram ls × ((j : ℕ) → IsDeepAt ls j → ⊥)
Explains ls (Depth k) = IsDeepAt ls k
Explains ls NoMemory = Unit {0}
