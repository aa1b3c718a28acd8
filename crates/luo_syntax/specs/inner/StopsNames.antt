-- Where reading names stops.
use Rattle.std.specs.Prelude.{List}
use Rattle.luo_scan.specs.declared.token.Mark.{Mark}
use Rattle.luo_scan.specs.declared.token.Mark.TheVariants.{Comma}
use Rattle.luo_scan.specs.declared.token.TokenKind.TheVariants as kind
use Rattle.luo_scan.specs.Lexemes.{Lexeme}
use Rattle.luo_source.specs.declared.names.Name.{Name}
use Rattle.luo_source.specs.Ends.{No}
use Rattle.luo_syntax.specs.inner.Next.{IsNext, IsName, Misses, MissesName}

-- name {"," name} and this mark are being read from these lexemes, and can't go on at those
pub data NamesStop : Mark → List Lexeme → List Lexeme → Type 0 where
  no_name : {close : Mark} {from at : List Lexeme} → MissesName from at → NamesStop close from at
  past_name : {close : Mark} {from next at : List Lexeme} {name : Name} → IsName from next name
      → No (kind.Mark close) next → Misses (kind.Mark Comma) next at → NamesStop close from at
  past_names : {close : Mark} {from next mid at : List Lexeme} {name : Name} → IsName from next name
      → IsNext (kind.Mark Comma) next mid → NamesStop close mid at → NamesStop close from at
