-- How patterns are put together.
use Rattle.std.proofs.Common.{◌≡◌, ℕ, ◌<◌, List, length, refl, sym, subst, ◌∙◌, arith}
use Rattle.luo_scan.specs.declared.token.Word.TheVariants.{KwAs}
use Rattle.luo_scan.specs.declared.token.Mark.TheVariants.{LeftRound, RightRound, Underscore}
use Rattle.luo_scan.specs.declared.token.TokenKind.{TokenKind}
use Rattle.luo_scan.specs.declared.token.TokenKind.TheVariants as kind
use Rattle.luo_scan.specs.Lexemes.{Lexeme}
use Rattle.luo_source.specs.declared.names.Name.{Name}
use Rattle.luo_source.specs.declared.statements.Pattern.{Pattern}
use Rattle.luo_source.specs.declared.statements.Pattern.TheVariants as pattern
use Rattle.luo_source.specs.Ends.{No, EndsPattern}
use Rattle.luo_syntax.specs.inner.Next.{IsNext, next, IsNextAt, next_at, IsName, next_name, Misses, MissesName}
use Rattle.luo_source.specs.GrammarTypes.{AreNames}
use Rattle.luo_source.specs.GrammarStatements.{IsPattern, pattern_named, pattern_whole, pattern_named_parts, pattern_parts, pattern_any, pattern_any_whole}
use Rattle.luo_syntax.specs.inner.StopsNames.{NamesStop}
use Rattle.luo_syntax.specs.inner.StopsPatterns.{behind_name, PatternEnds, PatternStops, no_pattern, in_pattern_parts, past_any_as, past_named_as, in_named_parts}
use Rattle.luo_syntax.proofs.Nexts.{next_past}
use Rattle.luo_syntax.proofs.NamesSoFar.{names_shorter}

pub reads_parts : {from mid to : List Lexeme} {k : ℕ} {names : List Name} → IsNextAt (kind.Mark LeftRound) k from mid → AreNames RightRound mid to names → IsPattern from to (pattern.Parts names k)
reads_parts next_at p = pattern_parts p

pub reads_any : {from to : List Lexeme} {k : ℕ} → IsNextAt (kind.Mark Underscore) k from to → IsPattern from to (pattern.Any k)
reads_any next_at = pattern_any

pub reads_any_whole : {from mid next to : List Lexeme} {k : ℕ} {name : Name} → IsNextAt (kind.Mark Underscore) k from mid → IsNext (kind.Word KwAs) mid next → IsName next to name → IsPattern from to (pattern.AnyWhole name k)
reads_any_whole next_at next next_name = pattern_any_whole

pub next_at_past : {what that : TokenKind} {from at to : List Lexeme} {k : ℕ} → Misses what from at → IsNextAt that k at to → IsNextAt that k from to
next_at_past {that} {to} {k} m p = subst (λ z. IsNextAt that k z to) m.0 p

pub name_past : {what : TokenKind} {from at to : List Lexeme} {name : Name} → Misses what from at → IsName at to name → IsName from to name
name_past {to} {name} m p = subst (λ z. IsName z to name) m.0 p

-- what comes next where a name begins
pub behind_is : {from to : List Lexeme} {name : Name} → IsName from to name → from ≡ behind_name name to
behind_is next_name = refl

pub reads_named : {to : List Lexeme} {name : Name} → IsPattern (behind_name name to) to (pattern.Named name)
reads_named = pattern_named

pub reads_whole : {mid next to : List Lexeme} {name inner : Name} → IsNext (kind.Word KwAs) mid next → IsName next to inner → IsPattern (behind_name name mid) to (pattern.NamedWhole name inner)
reads_whole next next_name = pattern_whole

pub reads_named_parts : {mid next to : List Lexeme} {name : Name} {names : List Name} → IsNext (kind.Mark LeftRound) mid next → AreNames RightRound next to names → IsPattern (behind_name name mid) to (pattern.NamedParts name names)
reads_named_parts next p = pattern_named_parts p

pub stops_whole : {mid next at : List Lexeme} {name : Name} → IsNext (kind.Word KwAs) mid next → MissesName next at → PatternStops (behind_name name mid) at
stops_whole p m = past_named_as next_name p m

pub stops_named_parts : {mid next at : List Lexeme} {name : Name} → IsNext (kind.Mark LeftRound) mid next → NamesStop RightRound next at → PatternStops (behind_name name mid) at
stops_named_parts p s = in_named_parts next_name p s

-- neither mark nor name comes next
pub misses_pattern : {from a b at : List Lexeme} → Misses (kind.Mark LeftRound) from a → Misses (kind.Mark Underscore) a b → MissesName b at → PatternStops from at
misses_pattern m n o = no_pattern (o.0 ∙ n.0 ∙ m.0) m.1 (subst (No _) m.0 n.1) (subst (No _) (n.0 ∙ m.0) o.1)

pub reads_from_name : {from mid to : List Lexeme} {name : Name} {p : Pattern} → IsName from mid name → IsPattern (behind_name name mid) to p → IsPattern from to p
reads_from_name next_name p = p

pub stops_from_name : {from mid at : List Lexeme} {name : Name} → IsName from mid name → PatternStops (behind_name name mid) at → PatternStops from at
stops_from_name next_name s = s

pub ends_named : {from mid to : List Lexeme} → Misses (kind.Word KwAs) from mid → Misses (kind.Mark LeftRound) mid to → EndsPattern to
ends_named m n = (subst (No _) (sym (n.0 ∙ m.0)) m.1, subst (No _) (sym n.0) n.1)

pub ends_any : {from to : List Lexeme} → Misses (kind.Word KwAs) from to → No (kind.Word KwAs) to
ends_any m = subst (No _) (sym m.0) m.1

pub pattern_shorter : {from to : List Lexeme} {p : Pattern} → IsPattern from to p → length to < length from
pattern_shorter pattern_named = omega arith
pattern_shorter pattern_whole = omega arith
pattern_shorter (pattern_named_parts p) = omega (arith, names_shorter p)
pattern_shorter (pattern_parts p) = omega (arith, names_shorter p)
pattern_shorter pattern_any = omega arith
pattern_shorter pattern_any_whole = omega arith

pub ruleset pattern_steps = (next_at_past, name_past, reads_parts, reads_any, reads_any_whole, reads_named, reads_whole, reads_named_parts, stops_whole, stops_named_parts, next_past, misses_pattern, reads_from_name, stops_from_name, ends_named, ends_any, pattern_shorter, in_pattern_parts, past_any_as, past_named_as, in_named_parts)
