-- What comes next, and what doesn't.
use Rattle.std.proofs.Common.{◌≡◌, ℕ, Option, None, Some, List, [], ◌∷◌, ◌<◌, length, refl, sym, subst, ◌∙◌, arith}
use Rattle.luo_scan.specs.declared.token.TokenKind.{TokenKind}
use Rattle.luo_scan.specs.declared.token.TokenKind.TheVariants as kind
use Rattle.luo_scan.specs.Lexemes.{Lexeme, lexeme}
use Rattle.luo_source.specs.declared.names.Name.{Name}
use Rattle.luo_source.specs.Ends.{No}
use Rattle.luo_syntax.specs.inner.Next.{IsNext, next, IsNextAt, next_at, IsName, next_name, NoNumber, Misses, MissesNumber, TakesAt, TakesKind, TakesNumber, TakesAnyNumber, first_kind}
use Rattle.luo_syntax.proofs.Prefixes.{BeginAlike, empty, begin}

-- what comes next where another kind was missed
pub next_past : {what that : TokenKind} {from at to : List Lexeme} → Misses what from at → IsNext that at to → IsNext that from to
next_past {that} {to} m p = subst (λ z. IsNext that z to) m.0 p

pub misses_past : {what that : TokenKind} {from mid at : List Lexeme} → Misses what from mid → Misses that mid at → Misses that from at
misses_past {that} m n = (n.0 ∙ m.0, subst (No that) m.0 n.1)

pub is_next : {what : TokenKind} {at : ℕ} {from to : List Lexeme} → IsNextAt what at from to → IsNext what from to
is_next next_at = next

pub name_is_next : {from to : List Lexeme} {name : Name} → IsName from to name → IsNext kind.Name from to
name_is_next next_name = next

pub next_one : {what that : TokenKind} {from from' to to' : List Lexeme} → IsNext what from to → IsNext that from' to' → from ≡ from' → (what ≡ that) × (to ≡ to')
next_one next next e = (cc, cc)

pub next_no : {what : TokenKind} {from from' to : List Lexeme} → IsNext what from to → No what from' → from ≡ from' → ⊥
next_no next n e = n _ _ _ (sym e)

pub next_shorter : {what : TokenKind} {from to : List Lexeme} → IsNext what from to → length to < length from
next_shorter next = omega arith

pub next_at_shorter : {what : TokenKind} {at : ℕ} {from to : List Lexeme} → IsNextAt what at from to → length to < length from
next_at_shorter next_at = omega arith

pub name_shorter : {from to : List Lexeme} {name : Name} → IsName from to name → length to < length from
name_shorter next_name = omega arith

pub no_at : {what : TokenKind} {from at : List Lexeme} → No what from → at ≡ from → No what at
no_at {what} n e = subst (No what) (sym e) n

pub no_alike : {what : TokenKind} {a b : List Lexeme} → BeginAlike a b → No what a → No what b
no_alike empty n bytes at rest e = cc
no_alike (begin l a b) n bytes at rest e = n bytes at a (cc)

pub no_number_alike : {a b : List Lexeme} → BeginAlike a b → NoNumber a → NoNumber b
no_number_alike b n k = no_alike b (n k)

pub misses_alike : {what : TokenKind} {from at other : List Lexeme} → Misses what from at → BeginAlike at other → Misses what other other
misses_alike {what} m b = (refl, no_alike b (subst (No what) (sym m.0) m.1))

pub misses_number_alike : {from at other : List Lexeme} → MissesNumber from at → BeginAlike at other → MissesNumber other other
misses_number_alike m b = (refl, no_number_alike b (subst NoNumber (sym m.0) m.1))

pub next_at_is : {what : TokenKind} {bytes : List ℕ} {at : ℕ} {from to : List Lexeme} → from ≡ lexeme what bytes at ∷ to → IsNextAt what at from to
next_at_is {what} {at} {to} e = subst (λ z. IsNextAt what at z to) (sym e) next_at

pub next_is : {what : TokenKind} {bytes : List ℕ} {at : ℕ} {from to : List Lexeme} → from ≡ lexeme what bytes at ∷ to → IsNext what from to
next_is {what} {to} e = subst (λ z. IsNext what z to) (sym e) next

pub name_is : {name : Name} {from to : List Lexeme} → from ≡ lexeme kind.Name name.text name.at ∷ to → IsName from to name
name_is {name} {to} e = subst (λ z. IsName z to name) (sym e) next_name

pub taken_at : (what : TokenKind) (from to : List Lexeme) (r : Option ℕ) → TakesKind what from to r → TakesAt what from to r
taken_at what from to (Some at) e = next_at_is e
taken_at what from to None m = m

pub taken_number : (from to : List Lexeme) (r : Option (ℕ × ℕ)) → TakesAnyNumber from to r → TakesNumber from to r
taken_number from to (Some (n, at)) e = next_at_is e
taken_number from to None m = m

pub seen : {what : TokenKind} (ls : List Lexeme) → first_kind ls ≡ Some what → (rest : List Lexeme) × IsNext what ls rest
seen [] e = cc
seen {what} (lexeme that bytes at ∷ ls) e = let f : that ≡ what = cc in (ls, subst (λ z. IsNext z (lexeme that bytes at ∷ ls) ls) f next)

pub ruleset nexts = (next_at_is, next_is, name_is, taken_at, taken_number, seen)
