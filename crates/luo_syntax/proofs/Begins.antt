-- What begins alike keeps what comes next, behind any prefix.
use Rattle.std.proofs.Common.{◌≡◌, List, [], ◌∷◌, ◌++◌, refl, sym, subst}
use Rattle.luo_scan.specs.declared.token.TokenKind.{TokenKind}
use Rattle.luo_scan.specs.Lexemes.{Lexeme}
use Rattle.luo_source.specs.Ends.{No}
use Rattle.luo_syntax.specs.inner.Next.{IsNext, next}
use Rattle.luo_syntax.proofs.Prefixes.{Prefix, BeginAlike, empty, begin}
use Rattle.luo_syntax.proofs.Nexts.{no_alike}

append_alike : (prefix : List Lexeme) {a b : List Lexeme} → BeginAlike a b → BeginAlike (prefix ++ a) (prefix ++ b)
append_alike [] s = s
append_alike (l ∷ prefix) s = begin l _ _

before_alike : (f : Prefix) {a b : List Lexeme} → BeginAlike a b → BeginAlike (f.before a) (f.before b)
before_alike f {a} {b} s = subst (λ z. BeginAlike z (f.before b)) (sym (f.is a)) (subst (BeginAlike (f.list ++ a)) (sym (f.is b)) (append_alike f.list s))

next_alike : {what : TokenKind} {a b to : List Lexeme} → IsNext what a to → BeginAlike a b → (rest : List Lexeme) × IsNext what b rest
next_alike next (begin l a b) = (b, next)

some_alike : {a b : List Lexeme} → BeginAlike a b → (a ≡ [] → ⊥) → b ≡ [] → ⊥
some_alike empty n e = n refl
some_alike (begin l a b) n e = cc

-- the first lexeme of a prefix and what stands behind it is the first with anything that begins alike

pub next_before : {what : TokenKind} {from at other to : List Lexeme} (f : Prefix) → from ≡ f.before at → IsNext what from to → BeginAlike at other → (rest : List Lexeme) × IsNext what (f.before other) rest
next_before {what} {to} f e n s = next_alike (subst (λ z. IsNext what z to) e n) (before_alike f s)

pub no_before : {what : TokenKind} {from at other : List Lexeme} (f : Prefix) → from ≡ f.before at → No what from → BeginAlike at other → No what (f.before other)
no_before {what} f e n s = no_alike (before_alike f s) (subst (No what) e n)

pub some_before : {from at other : List Lexeme} (f : Prefix) → from ≡ f.before at → (from ≡ [] → ⊥) → BeginAlike at other → f.before other ≡ [] → ⊥
some_before f e n s = some_alike (before_alike f s) (subst (λ z. z ≡ [] → ⊥) e n)
