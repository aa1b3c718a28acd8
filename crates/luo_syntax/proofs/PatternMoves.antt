-- Patterns that are read or stop do so before other lists too.
use Rattle.std.proofs.Common.{◌≡◌, List, ◌∷◌, refl, ap, sym, subst}
use Rattle.luo_scan.specs.declared.token.Word.TheVariants.{KwAs}
use Rattle.luo_scan.specs.declared.token.Mark.TheVariants.{LeftRound, Underscore}
use Rattle.luo_scan.specs.declared.token.TokenKind.{TokenKind}
use Rattle.luo_scan.specs.declared.token.TokenKind.TheVariants as kind
use Rattle.luo_scan.specs.Lexemes.{Lexeme, lexeme}
use Rattle.luo_source.specs.declared.statements.Pattern.{Pattern}
use Rattle.luo_source.specs.declared.statements.Pattern.TheVariants as pattern
use Rattle.luo_source.specs.Ends.{No, EndsPattern}
use Rattle.luo_syntax.specs.inner.Next.{next, next_at, next_name}
use Rattle.luo_source.specs.GrammarStatements.{IsPattern, pattern_named, pattern_whole, pattern_named_parts, pattern_parts, pattern_any, pattern_any_whole}
use Rattle.luo_syntax.specs.inner.StopsPatterns.{PatternEnds, PatternStops, no_pattern, in_pattern_parts, past_any_as, past_named_as, in_named_parts}
use Rattle.luo_syntax.proofs.Prefixes.{nothing, put, Moves, BeginAlike, Stuck}
use Rattle.luo_source.proofs.Behind.{behind}
use Rattle.luo_syntax.proofs.Nexts.{no_alike, misses_alike}
use Rattle.luo_syntax.proofs.Spelled.{a_name, name_fit}
use Rattle.luo_source.proofs.OneTypes.{names_one}
use Rattle.luo_syntax.proofs.NamesMoves.{names_moves, names_stuck, names_no}

pub pattern_moves : {from to : List Lexeme} {p : Pattern} → IsPattern from to p → Moves (λ a b. IsPattern a b p) from to
pattern_moves (pattern_named {text} {at}) = record { prefix = put (lexeme kind.Name text at) nothing; cut = refl; moves = λ o. pattern_named }
pattern_moves (pattern_whole {text} {b} {inner} {at} {k} {inner_at}) = record { prefix = put (lexeme kind.Name text at) (put (lexeme (kind.Word KwAs) b k) (put (lexeme kind.Name inner inner_at) nothing)); cut = refl; moves = λ o. pattern_whole }
pattern_moves (pattern_named_parts {text} {b} {at} {k} p) = let m = names_moves p in record {
  prefix = put (lexeme kind.Name text at) (put (lexeme (kind.Mark LeftRound) b k) m.prefix);
  cut = ap (λ z. lexeme kind.Name text at ∷ lexeme (kind.Mark LeftRound) b k ∷ z) m.cut;
  moves = λ o. pattern_named_parts (m.moves o);
}
pattern_moves (pattern_parts {b} {at} p) = let m = names_moves p in record {
  prefix = put (lexeme (kind.Mark LeftRound) b at) m.prefix;
  cut = ap (λ z. lexeme (kind.Mark LeftRound) b at ∷ z) m.cut;
  moves = λ o. pattern_parts (m.moves o);
}
pattern_moves (pattern_any {b} {at}) = record { prefix = put (lexeme (kind.Mark Underscore) b at) nothing; cut = refl; moves = λ o. pattern_any }
pattern_moves (pattern_any_whole {b} {c} {text} {at} {k} {name_at}) = record { prefix = put (lexeme (kind.Mark Underscore) b at) (put (lexeme (kind.Word KwAs) c k) (put (lexeme kind.Name text name_at) nothing)); cut = refl; moves = λ o. pattern_any_whole }

-- a pattern ends before all lists that begin alike
pub pattern_ends_alike : {a b : List Lexeme} (p : Pattern) → BeginAlike a b → PatternEnds p a → PatternEnds p b
pattern_ends_alike (pattern.Named n) b e = (no_alike b e.0, no_alike b e.1)
pattern_ends_alike (pattern.Any at) b e = no_alike b e
pattern_ends_alike (pattern.NamedWhole n m) b e = tt
pattern_ends_alike (pattern.NamedParts n ms) b e = tt
pattern_ends_alike (pattern.Parts ns at) b e = tt
pattern_ends_alike (pattern.AnyWhole n at) b e = tt

pub pattern_stuck : {from at : List Lexeme} → PatternStops from at → Stuck Pattern PatternStops IsPattern from at
pattern_stuck (no_pattern {from} {at} e l u n) = record {
  prefix = nothing;
  cut = sym e;
  alike = λ o b. let there : (what : TokenKind) → No what from → No what o = λ what m. no_alike b (subst (No what) (sym e) m) in
      no_pattern refl (there _ l) (there _ u) (there _ n);
  goes_on = λ to s. (a_name ∷ to, (name_fit, s), _, pattern_named);
}
pattern_stuck (in_pattern_parts (next_at {bytes = b} {at = k}) s) = let m = names_stuck s in record {
  prefix = put (lexeme (kind.Mark LeftRound) b k) m.prefix;
  cut = ap (λ z. lexeme (kind.Mark LeftRound) b k ∷ z) m.cut;
  alike = λ o b. in_pattern_parts next_at (m.alike o b);
  goes_on = λ to s. let g = m.goes_on to s in (g.0, g.1, _, pattern_parts g.3);
}
pattern_stuck (past_any_as (next_at {bytes = b} {at = k}) (next {bytes = c} {at = l}) m) = record {
  prefix = put (lexeme (kind.Mark Underscore) b k) (put (lexeme (kind.Word KwAs) c l) nothing);
  cut = ap (λ z. lexeme (kind.Mark Underscore) b k ∷ lexeme (kind.Word KwAs) c l ∷ z) (sym m.0);
  alike = λ o b. past_any_as next_at next (misses_alike m b);
  goes_on = λ to s. (a_name ∷ to, (name_fit, s), _, pattern_any_whole);
}
pattern_stuck (past_named_as (next_name {text} {at = k}) (next {bytes = c} {at = l}) m) = record {
  prefix = put (lexeme kind.Name text k) (put (lexeme (kind.Word KwAs) c l) nothing);
  cut = ap (λ z. lexeme kind.Name text k ∷ lexeme (kind.Word KwAs) c l ∷ z) (sym m.0);
  alike = λ o b. past_named_as next_name next (misses_alike m b);
  goes_on = λ to s. (a_name ∷ to, (name_fit, s), _, pattern_whole);
}
pattern_stuck (in_named_parts (next_name {text} {at = k}) (next {bytes = c} {at = l}) s) = let m = names_stuck s in record {
  prefix = put (lexeme kind.Name text k) (put (lexeme (kind.Mark LeftRound) c l) m.prefix);
  cut = ap (λ z. lexeme kind.Name text k ∷ lexeme (kind.Mark LeftRound) c l ∷ z) m.cut;
  alike = λ o b. in_named_parts next_name next (m.alike o b);
  goes_on = λ to s. let g = m.goes_on to s in (g.0, g.1, _, pattern_named_parts g.3);
}

pub pattern_no : {from from' at to : List Lexeme} {p : Pattern} → PatternStops from at → IsPattern from' to p → from ≡ from' → EndsPattern to → ⊥
pattern_no (no_pattern e l u n) pattern_named f m = n _ _ _ f
pattern_no (no_pattern e l u n) pattern_whole f m = n _ _ _ f
pattern_no (no_pattern e l u n) (pattern_named_parts p) f m = n _ _ _ f
pattern_no (no_pattern e l u n) (pattern_parts p) f m = l _ _ _ f
pattern_no (no_pattern e l u n) pattern_any f m = u _ _ _ f
pattern_no (no_pattern e l u n) pattern_any_whole f m = u _ _ _ f
pattern_no (in_pattern_parts next_at s) (pattern_parts p) f m = names_no (λ g. cc) s p (behind f)
pattern_no (in_pattern_parts next_at s) p f m = cc
pattern_no (past_any_as next_at next n) pattern_any f m = m.0 _ _ _ (sym (behind f))
pattern_no (past_any_as next_at next n) pattern_any_whole f m = n.1 _ _ _ (behind (behind f))
pattern_no (past_any_as next_at next n) p f m = cc
pattern_no (past_named_as next_name next n) pattern_named f m = m.0 _ _ _ (sym (behind f))
pattern_no (past_named_as next_name next n) pattern_whole f m = n.1 _ _ _ (behind (behind f))
pattern_no (past_named_as next_name next n) p f m = cc
pattern_no (in_named_parts next_name next s) pattern_named f m = m.1 _ _ _ (sym (behind f))
pattern_no (in_named_parts next_name next s) (pattern_named_parts p) f m = names_no (λ g. cc) s p (behind (behind f))
pattern_no (in_named_parts next_name next s) p f m = cc

-- a pattern that is read to where its form ends is the only one that ends where no pattern is gone on with
pub pattern_meets : {from from' to to' : List Lexeme} {p q : Pattern} → IsPattern from to p → PatternEnds p to → IsPattern from' to' q → EndsPattern to' → from ≡ from' → (to ≡ to') × (p ≡ q)
pattern_meets pattern_named m pattern_named n e = (cc, cc)
pattern_meets pattern_named m pattern_whole n e = absurd (m.0 _ _ _ (behind e))
pattern_meets pattern_named m (pattern_named_parts q) n e = absurd (m.1 _ _ _ (behind e))
pattern_meets pattern_whole m pattern_named n e = absurd (n.0 _ _ _ (sym (behind e)))
pattern_meets pattern_whole m pattern_whole n e = (cc, cc)
pattern_meets (pattern_named_parts p) m pattern_named n e = absurd (n.1 _ _ _ (sym (behind e)))
pattern_meets (pattern_named_parts p) m (pattern_named_parts q) n e = let rest = names_one (λ f. cc) p q (cc) in (rest.0, cc)
pattern_meets (pattern_parts p) m (pattern_parts q) n e = let rest = names_one (λ f. cc) p q (cc) in (rest.0, cc)
pattern_meets pattern_any m pattern_any n e = (cc, cc)
pattern_meets pattern_any m pattern_any_whole n e = absurd (m _ _ _ (behind e))
pattern_meets pattern_any_whole m pattern_any n e = absurd (n.0 _ _ _ (sym (behind e)))
pattern_meets pattern_any_whole m pattern_any_whole n e = (cc, cc)
pattern_meets p m q n e = cc
