-- Decimal numbers are read as numbers.
use Rattle.std.proofs.Common.{◌≡◌, ◌≤◌, ◌<◌, ◌+◌, ◌-◌, ◌*◌, ◌^◌, ◌/◌, ◌%◌, ℕ, List, [], ◌∷◌, ◌++◌, refl, ◌∙◌, subst, inl, inr, arith, Some, decimal}
use Rattle.std.proofs.lemmas.Bool.{cases_eq}
use Rattle.std.specs.List.{AllByRecursion}
use Rattle.std.proofs.lemmas.Fmt.{decimal_by_steps_wide}
use Rattle.luo_num.specs.declared.limits.TheConstants.{NUMBER_LIMIT}
use Rattle.luo_scan.specs.declared.token.TokenKind.TheVariants as kind
use Rattle.luo_scan.specs.Bytes.{IsDigit, IsNameByte}
use Rattle.luo_scan.specs.Prefixes.{Stops}
use Rattle.luo_scan.specs.Spellings.{value_after}
use Rattle.luo_scan.specs.Tokens.{Begins}
use Rattle.luo_scan.proofs.Longest.{begins_zero, begins_number}
use Rattle.luo_print.proofs.Cuts.{Quiet, Reads, Takes, token_reads}

-- these are digits, without a 0 before others, and worth this number
pub record IsNumeral (n : ℕ) (d : ℕ) (ds : List ℕ) : Type 0 where
  pub first : IsDigit d
  pub all : AllByRecursion IsDigit ds
  pub worth : value_after 0 (d ∷ ds) ≡ n
  pub bare : d ≡ 48 → (ds ≡ []) × (n ≡ 0)

abbrev IsNumeralText : ℕ → List ℕ → Type 0
IsNumeralText n [] = ⊥
IsNumeralText n (d ∷ ds) = IsNumeral n d ds

value_last : (n : ℕ) (xs : List ℕ) (d : ℕ) → value_after n (xs ++ d ∷ []) ≡ 10 * value_after n xs + (d - 48)
value_last n [] d = refl
value_last n (x ∷ xs) d = value_last (10 * n + (x - 48)) xs d

all_last : (xs : List ℕ) (d : ℕ) → AllByRecursion IsDigit xs → IsDigit d → AllByRecursion IsDigit (xs ++ d ∷ [])
all_last [] d a h = (h, tt)
all_last (x ∷ xs) d a h = (a.0, all_last xs d a.1 h)

small : (m : ℕ) → m < 10 → IsNumeralText m ((48 + m) ∷ [])
small m l = record { first = (omega arith, omega arith); all = tt; worth = omega arith; bare = λ e. (refl, omega arith) }

more : (m : ℕ) (ds : List ℕ) → 10 ≤ m → IsNumeralText (m / 10) ds → IsNumeralText m (ds ++ (48 + m % 10) ∷ [])
more m [] l h = absurd h
more m (d ∷ ds) l h = record {
  first = h.first;
  all = all_last ds (48 + m % 10) h.all (omega arith, omega arith);
  worth = value_last 0 (d ∷ ds) (48 + m % 10) ∙ omega (arith, h.worth);
  bare = λ e. absurd (omega (arith, (h.bare e).1));
}

numeral : (n : ℕ) → n < 10 ^ 64 → IsNumeralText n (decimal n)
numeral n l = decimal_by_steps_wide IsNumeralText small more n l

quiet_digit : (rest : List ℕ) → Stops IsNameByte rest → Stops IsDigit rest
quiet_digit [] q = tt
quiet_digit (b ∷ bs) q = λ h. q (grind arith)

begins_bare : (n d : ℕ) (ds rest : List ℕ) → d ≡ 48 → ds ≡ [] → n ≡ 0 → Begins ((d ∷ ds) ++ rest) (d ∷ ds) rest (Some (kind.Number n))
begins_bare n d ds rest e f g = simp (e, f, g) (begins_zero rest)

begins_text : (n : ℕ) (text rest : List ℕ) → IsNumeralText n text → Stops IsNameByte rest → Begins (text ++ rest) text rest (Some (kind.Number n))
begins_text n [] rest h q = absurd h
begins_text n (d ∷ ds) rest h q =
    elim (cases_eq d 48) as (λ _. Begins ((d ∷ ds) ++ rest) (d ∷ ds) rest (Some (kind.Number n))) [
      | inl e ↦ begins_bare n d ds rest e (h.bare e).0 (h.bare e).1
      | inr f ↦ subst (λ m. Begins ((d ∷ ds) ++ rest) (d ∷ ds) rest (Some (kind.Number m))) h.worth (begins_number d ds rest h.first f h.all (quiet_digit rest q))
    ]

-- a number up to the limit is read
pub number_reads : (n : ℕ) → n ≤ NUMBER_LIMIT → Reads Quiet (decimal n) (Takes (kind.Number n) (decimal n))
number_reads n l = token_reads (kind.Number n) (decimal n) (λ rest q. begins_text n (decimal n) rest (numeral n (omega arith)) q) l
