-- Names that are read one by one.
use Rattle.std.proofs.Common.{◌≡◌, ◌<◌, ◌≤◌, List, [], ◌∷◌, ◌++◌, length, append_assoc, ap, sym, subst, ◌∙◌, arith}
use Rattle.luo_scan.specs.declared.token.Mark.{Mark}
use Rattle.luo_scan.specs.declared.token.Mark.TheVariants.{Comma}
use Rattle.luo_scan.specs.declared.token.TokenKind.TheVariants as kind
use Rattle.luo_scan.specs.Lexemes.{Lexeme}
use Rattle.luo_source.specs.declared.names.Name.{Name}
use Rattle.luo_syntax.specs.inner.Next.{IsNext, next, IsName, next_name}
use Rattle.luo_source.specs.GrammarTypes.{AreNames, last_name, more_names}
use Rattle.luo_syntax.specs.inner.StopsNames.{NamesStop, no_name, past_name, past_names}
use Rattle.luo_syntax.proofs.Nexts.{next_shorter, name_shorter}

-- what is read from here on is read from the start on behind what there is
pub record NamesSoFar (close : Mark) (start at : List Lexeme) (names : List Name) : Type 0 where
  pub reads : (to : List Lexeme) (more : List Name) → AreNames close at to more → AreNames close start to (names ++ more)
  pub stops : (to : List Lexeme) → NamesStop close at to → NamesStop close start to
  pub no_longer : length at ≤ length start

pub none_so_far : {close : Mark} {start : List Lexeme} → NamesSoFar close start start []
none_so_far = record { reads = λ to more p. p; stops = λ to s. s; no_longer = omega arith }

reads_last : {close : Mark} {at next to : List Lexeme} {name : Name} → IsName at next name → IsNext (kind.Mark close) next to → AreNames close at to (name ∷ [])
reads_last next_name next = last_name

reads_more : {close : Mark} {at next mid to : List Lexeme} {name : Name} {names : List Name} → IsName at next name → IsNext (kind.Mark Comma) next mid → AreNames close mid to names → AreNames close at to (name ∷ names)
reads_more next_name next p = more_names p

pub names_end : {close : Mark} {start at next to : List Lexeme} {name : Name} {names names' : List Name} → NamesSoFar close start at names → IsName at next name → IsNext (kind.Mark close) next to → names' ≡ names ++ name ∷ [] → AreNames close start to names'
names_end {close} {start} {to} so p q e = subst (AreNames close start to) (sym e) (so.reads to _ (reads_last p q))

pub names_more : {close : Mark} {start at next mid : List Lexeme} {name : Name} {names names' : List Name} → NamesSoFar close start at names → IsName at next name → IsNext (kind.Mark Comma) next mid → names' ≡ names ++ name ∷ [] → NamesSoFar close start mid names'
names_more {close} {start} {name} {names} so p q e = record {
  reads = λ to more r. subst (AreNames close start to) (sym (ap (λ z. z ++ more) e ∙ append_assoc names (name ∷ []) more)) (so.reads to (name ∷ more) (reads_more p q r));
  stops = λ to s. so.stops to (past_names p q s);
  no_longer = omega (arith, so.no_longer, name_shorter p, next_shorter q);
}

pub names_shorter : {close : Mark} {from to : List Lexeme} {names : List Name} → AreNames close from to names → length to < length from
names_shorter last_name = omega arith
names_shorter (more_names p) = omega (arith, names_shorter p)

pub ruleset names_steps = (none_so_far, no_name, past_name, past_names, names_end, names_more, names_shorter)
