-- Tokens that open and close.
use Rattle.std.proofs.Common.{◌≡◌, ℕ, zero, suc, List, [], ◌∷◌, ◌+◌, ◌≤◌, ◌<◌, refl, sym, subst, ap, ◌∙◌, length, take, get_or, arith}
use Rattle.luo_num.specs.declared.limits.TheConstants.{DEPTH_LIMIT}
use Rattle.luo_scan.specs.declared.token.Word.TheVariants.{KwLabelled}
use Rattle.luo_scan.specs.declared.token.TokenKind.TheVariants as kind
use Rattle.luo_scan.specs.declared.token.Token.{Token}
use Rattle.luo_scan.specs.Lexemes.{lexemes, lexemes_from}
use Rattle.luo_syntax.specs.Viable.{opens_kind, closes_kind, opened, closed, IsShallow, IsFirstDeep}
use Rattle.luo_syntax.proofs.Lexemes.{as_many, first_lexemes}

-- what stands for a token behind the last
abbrev pub any_token : Token
any_token = record { kind = kind.Word KwLabelled; start = 0; end = 0 }

-- how many of these tokens open
abbrev pub kinds_opened : List Token → ℕ
kinds_opened [] = 0
kinds_opened (t ∷ ts) = opens_kind t.kind + kinds_opened ts

-- how many of these tokens close
abbrev pub kinds_closed : List Token → ℕ
kinds_closed [] = 0
kinds_closed (t ∷ ts) = closes_kind t.kind + kinds_closed ts

-- behind none of the first tokens more than the limit are open
abbrev pub IsShallowTo : ℕ → List Token → Type 0
IsShallowTo i ts = (j : ℕ) → j ≤ i → kinds_closed (take j ts) + DEPTH_LIMIT < kinds_opened (take j ts) → ⊥

pub opened_more : (ts : List Token) (i : ℕ) (d : Token) → i < length ts → kinds_opened (take (i + 1) ts) ≡ kinds_opened (take i ts) + opens_kind (get_or ts i d).kind
opened_more [] i d a = absurd (omega (arith, a))
opened_more (t ∷ ts) zero d a = omega arith
opened_more (t ∷ ts) (suc i) d a =
    let e : suc i + 1 ≡ suc (i + 1) = omega arith in
    omega (arith, ap (λ z. kinds_opened (take z (t ∷ ts))) e, opened_more ts i d (omega (arith, a)))

pub closed_more : (ts : List Token) (i : ℕ) (d : Token) → i < length ts → kinds_closed (take (i + 1) ts) ≡ kinds_closed (take i ts) + closes_kind (get_or ts i d).kind
closed_more [] i d a = absurd (omega (arith, a))
closed_more (t ∷ ts) zero d a = omega arith
closed_more (t ∷ ts) (suc i) d a =
    let e : suc i + 1 ≡ suc (i + 1) = omega arith in
    omega (arith, ap (λ z. kinds_closed (take z (t ∷ ts))) e, closed_more ts i d (omega (arith, a)))

pub none_shallow : (ts : List Token) → IsShallowTo 0 ts
none_shallow ts zero a d = omega (arith, d)
none_shallow ts (suc j) a d = omega (arith, a)

pub shallow_more : (ts : List Token) (i : ℕ) → IsShallowTo i ts → (kinds_closed (take (i + 1) ts) + DEPTH_LIMIT < kinds_opened (take (i + 1) ts) → ⊥) → IsShallowTo (i + 1) ts
shallow_more ts i before here j a d =
    let above : j ≤ i → ⊥ = λ b. before j b d in
    here (subst (λ z. kinds_closed (take z ts) + DEPTH_LIMIT < kinds_opened (take z ts)) (omega (arith, a, above)) d)

opened_kinds : (at : ℕ) (text : List ℕ) (ts : List Token) → opened (lexemes_from at text ts) ≡ kinds_opened ts
opened_kinds at text [] = refl
opened_kinds at text (t ∷ ts) = ap (λ z. opens_kind t.kind + z) (opened_kinds (at + 1) text ts)

closed_kinds : (at : ℕ) (text : List ℕ) (ts : List Token) → closed (lexemes_from at text ts) ≡ kinds_closed ts
closed_kinds at text [] = refl
closed_kinds at text (t ∷ ts) = ap (λ z. closes_kind t.kind + z) (closed_kinds (at + 1) text ts)

opened_prefix : (text : List ℕ) (ts : List Token) (j : ℕ) → opened (take j (lexemes text ts)) ≡ kinds_opened (take j ts)
opened_prefix text ts j = ap opened (sym (first_lexemes j 0 text ts)) ∙ opened_kinds 0 text (take j ts)

closed_prefix : (text : List ℕ) (ts : List Token) (j : ℕ) → closed (take j (lexemes text ts)) ≡ kinds_closed (take j ts)
closed_prefix text ts j = ap closed (sym (first_lexemes j 0 text ts)) ∙ closed_kinds 0 text (take j ts)

pub shallow_text : (ts : List Token) → IsShallowTo (length ts) ts → (text : List ℕ) → IsShallow (lexemes text ts)
shallow_text ts s text j a d = s j (omega (arith, a, as_many 0 text ts)) (omega (arith, d, opened_prefix text ts j, closed_prefix text ts j))

pub first_deep : (ts : List Token) (i : ℕ) → i < length ts → kinds_closed (take (i + 1) ts) + DEPTH_LIMIT < kinds_opened (take (i + 1) ts) → IsShallowTo i ts → (text : List ℕ) → IsFirstDeep (lexemes text ts) i
first_deep ts i a deep s text = (
  omega (arith, a, as_many 0 text ts),
  omega (arith, deep, opened_prefix text ts (i + 1), closed_prefix text ts (i + 1)),
  λ j b d. s j b (omega (arith, d, opened_prefix text ts j, closed_prefix text ts j)),
)
