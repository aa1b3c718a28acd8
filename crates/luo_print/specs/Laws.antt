-- What holds of canonical texts.
use Rattle.std.specs.Prelude.{◌≡◌, ℕ, List}
use Rattle.luo_scan.specs.declared.token.Token.{Token}
use Rattle.luo_scan.specs.Tokens.{Tokens}
use Rattle.luo_source.specs.declared.source.Source.{Source}
use Rattle.luo_source.specs.Plain.Source as plain
use Rattle.luo_source.specs.View.{plain_source}
use Rattle.luo_source.specs.Grammar.{Derives}
use Rattle.luo_print.specs.Canonical.{canonical}
use Rattle.luo_print.specs.Same.{SameSource}

-- where a text has a source, the tokens of its canonical text derive the same source but for places
abbrev pub ReadsBack : Type 0
ReadsBack =
    (text : List ℕ) (tokens : List Token) (source : Source) → Tokens text tokens
    → Derives text tokens source
    → (again : List Token) × (read : Source) × Tokens (canonical (plain_source source)) again
    × Derives (canonical (plain_source source)) again read
    × SameSource (plain_source source) (plain_source read)

-- sources that differ at most in their places have one canonical text
abbrev pub SameText : Type 0
SameText = (s t : plain.Source) → SameSource s t → canonical s ≡ canonical t

-- where a text has a source, the canonical text has a source too, and its canonical text is itself
abbrev pub FormatsOnce : Type 0
FormatsOnce =
    (text : List ℕ) (tokens : List Token) (source : Source) → Tokens text tokens
    → Derives text tokens source
    → (again : List Token) × (read : Source) × Tokens (canonical (plain_source source)) again
    × Derives (canonical (plain_source source)) again read
    × (canonical (plain_source read) ≡ canonical (plain_source source))
