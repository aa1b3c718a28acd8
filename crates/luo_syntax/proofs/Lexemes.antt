-- Lexemes of tokens, one for each.
use Rattle.std.proofs.Common.{◌≡◌, ℕ, zero, suc, List, [], ◌∷◌, ◌+◌, ◌≤◌, ◌-◌, length, take, drop, refl, ap, arith}
use Rattle.luo_scan.specs.declared.token.Token.{Token}
use Rattle.luo_scan.specs.Lexemes.{Lexeme, lexeme, lexemes_from}

pub as_many : (at : ℕ) (text : List ℕ) (ts : List Token) → length (lexemes_from at text ts) ≡ length ts
as_many at text [] = refl
as_many at text (t ∷ ts) = omega (arith, as_many (at + 1) text ts)

pub some_lexemes : (at : ℕ) (text : List ℕ) (ts : List Token) {ls : List Lexeme} → lexemes_from at text ts ≡ ls → 1 ≤ length ts → ls ≡ [] → ⊥
some_lexemes at text [] e n f = absurd (omega (arith, n))
some_lexemes at text (t ∷ ts) e n f = cc

-- the lexemes of the first tokens are the first lexemes
pub first_lexemes : (n at : ℕ) (text : List ℕ) (ts : List Token) → lexemes_from at text (take n ts) ≡ take n (lexemes_from at text ts)
first_lexemes zero at text ts = refl
first_lexemes (suc n) at text [] = refl
first_lexemes (suc n) at text (t ∷ ts) = ap (λ z. lexeme t.kind (take (t.end - t.start) (drop t.start text)) at ∷ z) (first_lexemes n (at + 1) text ts)
