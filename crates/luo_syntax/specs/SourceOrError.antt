-- A text has a source or an error.
use Rattle.std.specs.Prelude.{◌≡◌, ℕ, List}
use Rattle.luo_scan.specs.declared.token.Token.{Token}
use Rattle.luo_scan.specs.Lexemes.{lexemes}
use Rattle.luo_scan.specs.Tokens.{Tokens}
use Rattle.luo_syntax.specs.declared.error.SyntaxError.{SyntaxError}
use Rattle.luo_syntax.specs.declared.error.SyntaxError.TheVariants.{NoMemory}
use Rattle.luo_source.specs.declared.source.Source.{Source}
use Rattle.luo_source.specs.Grammar.{Derives}
use Rattle.luo_syntax.specs.Viable.{IsShallow, Explains}

-- these tokens derive a source, and nowhere among them is too much open
abbrev pub HasSource : List ℕ → List Token → Type 0
HasSource text tokens =
    (source : Source) × Derives text tokens source × IsShallow (lexemes text tokens)

-- an error says why these tokens aren't read, other than that memory ran out
abbrev pub HasError : List ℕ → List Token → Type 0
HasError text tokens =
    (error : SyntaxError) × (error ≡ NoMemory → ⊥) × Explains (lexemes text tokens) error

-- it can't be that the tokens of a text have neither
abbrev pub SourceOrError : Type 0
SourceOrError =
    (text : List ℕ) (tokens : List Token) → Tokens text tokens → (HasSource text tokens → ⊥)
    → (HasError text tokens → ⊥) → ⊥

-- no tokens have both
abbrev pub NeverBoth : Type 0
NeverBoth = (text : List ℕ) (tokens : List Token) → HasSource text tokens → HasError text tokens → ⊥
