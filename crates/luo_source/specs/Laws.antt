-- What holds of the sources of all tokens.
use Rattle.std.specs.Prelude.{◌≡◌, ℕ, List}
use Rattle.luo_scan.specs.declared.token.Token.{Token}
use Rattle.luo_source.specs.declared.source.Source.{Source}
use Rattle.luo_source.specs.Grammar.{Derives}

-- the tokens of a text have at most one source
abbrev pub SourceIsUnique : Type 0
SourceIsUnique =
    (text : List ℕ) (tokens : List Token) (one two : Source) → Derives text tokens one
    → Derives text tokens two → one ≡ two
