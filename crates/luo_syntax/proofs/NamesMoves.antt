-- Names that are read or stop do so before other lists too.
use Rattle.std.proofs.Common.{◌≡◌, List, ◌∷◌, refl, ap, sym, subst}
use Rattle.luo_scan.specs.declared.token.Mark.{Mark}
use Rattle.luo_scan.specs.declared.token.Mark.TheVariants.{Comma}
use Rattle.luo_scan.specs.declared.token.TokenKind.TheVariants as kind
use Rattle.luo_scan.specs.Lexemes.{Lexeme, lexeme}
use Rattle.luo_source.specs.declared.names.Name.{Name}
use Rattle.luo_source.specs.Ends.{No}
use Rattle.luo_syntax.specs.inner.Next.{next, next_name}
use Rattle.luo_source.specs.GrammarTypes.{AreNames, last_name, more_names}
use Rattle.luo_syntax.specs.inner.StopsNames.{NamesStop, no_name, past_name, past_names}
use Rattle.luo_syntax.proofs.Prefixes.{nothing, put, Moves, Stuck}
use Rattle.luo_source.proofs.Behind.{behind}
use Rattle.luo_syntax.proofs.Nexts.{no_alike, misses_alike}
use Rattle.luo_syntax.proofs.Spelled.{a_name, a_mark, name_fit, mark_fit}

pub names_moves : {close : Mark} {from to : List Lexeme} {names : List Name} → AreNames close from to names → Moves (λ a b. AreNames close a b names) from to
names_moves (last_name {close} {text} {b} {at} {k}) = record { prefix = put (lexeme kind.Name text at) (put (lexeme (kind.Mark close) b k) nothing); cut = refl; moves = λ o. last_name }
names_moves (more_names {text} {b} {at} {k} p) = let m = names_moves p in record {
  prefix = put (lexeme kind.Name text at) (put (lexeme (kind.Mark Comma) b k) m.prefix);
  cut = ap (λ z. lexeme kind.Name text at ∷ lexeme (kind.Mark Comma) b k ∷ z) m.cut;
  moves = λ o. more_names (m.moves o);
}

pub names_stuck : {close : Mark} {from at : List Lexeme} → NamesStop close from at → Stuck (List Name) (NamesStop close) (AreNames close) from at
names_stuck {close} (no_name m) = record {
  prefix = nothing;
  cut = sym m.0;
  alike = λ o b. no_name (misses_alike m b);
  goes_on = λ to s. (a_name ∷ a_mark close ∷ to, (name_fit, (mark_fit close, s)), _, last_name);
}
names_stuck {close} (past_name (next_name {text} {at}) n m) = record {
  prefix = put (lexeme kind.Name text at) nothing;
  cut = ap (λ z. lexeme kind.Name text at ∷ z) (sym m.0);
  alike = λ o b. past_name next_name (no_alike b (subst (No (kind.Mark close)) (sym m.0) n)) (misses_alike m b);
  goes_on = λ to s. (a_mark close ∷ to, (mark_fit close, s), _, last_name);
}
names_stuck (past_names (next_name {text} {at}) (next {bytes = b} {at = k}) s) = let m = names_stuck s in record {
  prefix = put (lexeme kind.Name text at) (put (lexeme (kind.Mark Comma) b k) m.prefix);
  cut = ap (λ z. lexeme kind.Name text at ∷ lexeme (kind.Mark Comma) b k ∷ z) m.cut;
  alike = λ o b. past_names next_name next (m.alike o b);
  goes_on = λ to s. let g = m.goes_on to s in (g.0, g.1, _, more_names g.3);
}

pub names_no : {close : Mark} {from from' at to : List Lexeme} {names : List Name} → (close ≡ Comma → ⊥) → NamesStop close from at → AreNames close from' to names → from ≡ from' → ⊥
names_no c (no_name m) last_name e = m.1 _ _ _ e
names_no c (no_name m) (more_names q) e = m.1 _ _ _ e
names_no c (past_name next_name n m) last_name e = n _ _ _ (behind e)
names_no c (past_name next_name n m) (more_names q) e = m.1 _ _ _ (behind e)
names_no c (past_names next_name next s) last_name e = c (cc)
names_no c (past_names next_name next s) (more_names q) e = names_no c s q (behind (behind e))
