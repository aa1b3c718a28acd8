-- Where reading a pattern stops, and where a pattern ends.
use Rattle.std.specs.Prelude.{ℕ, List, ◌∷◌, ◌≡◌}
use Rattle.luo_scan.specs.declared.token.Word.TheVariants.{KwAs}
use Rattle.luo_scan.specs.declared.token.Mark.TheVariants.{LeftRound, RightRound, Underscore}
use Rattle.luo_scan.specs.declared.token.TokenKind.TheVariants as kind
use Rattle.luo_scan.specs.Lexemes.{Lexeme, lexeme}
use Rattle.luo_source.specs.declared.names.Name.{Name}
use Rattle.luo_source.specs.declared.statements.Pattern.{Pattern}
use Rattle.luo_source.specs.declared.statements.Pattern.TheVariants.{Named, Any}
use Rattle.luo_source.specs.Ends.{No, EndsPattern}
use Rattle.luo_syntax.specs.inner.Next.{IsNext, IsNextAt, IsName, NoName, MissesName}
use Rattle.luo_syntax.specs.inner.StopsNames.{NamesStop}

-- this name, and these lexemes after it
abbrev pub behind_name : Name → List Lexeme → List Lexeme
behind_name name ls = lexeme kind.Name name.text name.at ∷ ls

-- a pattern of this form isn't gone on with here
abbrev pub PatternEnds : Pattern → List Lexeme → Type 0
PatternEnds (Named name) ls = EndsPattern ls
PatternEnds (Any at) ls = No (kind.Word KwAs) ls
PatternEnds other ls = Unit {0}

-- a pattern is being read from these lexemes, and can't go on at those
pub data PatternStops : List Lexeme → List Lexeme → Type 0 where
  no_pattern : {from at : List Lexeme} → at ≡ from → No (kind.Mark LeftRound) from
      → No (kind.Mark Underscore) from → NoName from → PatternStops from at
  in_pattern_parts : {from mid at : List Lexeme} {k : ℕ} → IsNextAt (kind.Mark LeftRound) k from mid
      → NamesStop RightRound mid at → PatternStops from at
  past_any_as : {from mid next at : List Lexeme} {k : ℕ}
      → IsNextAt (kind.Mark Underscore) k from mid → IsNext (kind.Word KwAs) mid next
      → MissesName next at → PatternStops from at
  past_named_as : {from mid next at : List Lexeme} {name : Name} → IsName from mid name
      → IsNext (kind.Word KwAs) mid next → MissesName next at → PatternStops from at
  in_named_parts : {from mid next at : List Lexeme} {name : Name} → IsName from mid name
      → IsNext (kind.Mark LeftRound) mid next → NamesStop RightRound next at → PatternStops from at
