-- Numbers read digit by digit.
use Rattle.std.proofs.Common.{◌≡◌, ◌<◌, ◌+◌, ◌*◌, ◌-◌, min, ℕ, zero, suc, List, [], ◌∷◌, length, take, get_or, add-one, refl, sym, subst, arith}
use Rattle.luo_scan.specs.Spellings.{value_after}

pub value_more : (n i : ℕ) (xs : List ℕ) → i < length xs → value_after n (take (i + 1) xs) ≡ 10 * value_after n (take i xs) + (get_or xs i 0 - 48)
value_more n i [] h = absurd (omega arith)
value_more n zero (x ∷ xs) h = refl
value_more n (suc i) (x ∷ xs) h =
    subst (λ k. value_after n (take k (x ∷ xs)) ≡ 10 * value_after n (take (suc i) (x ∷ xs)) + (get_or xs i 0 - 48)) (sym (add-one (suc i)))
    (subst (λ k. value_after (10 * n + (x - 48)) (take k xs) ≡ 10 * value_after (10 * n + (x - 48)) (take i xs) + (get_or xs i 0 - 48)) (add-one i)
    (value_more (10 * n + (x - 48)) i xs (omega arith)))

-- a digit more of a number that stops at a limit
pub capped : (number value next digit result limit : ℕ) → number ≡ min value limit → next ≡ 10 * value + digit → result ≡ min (10 * number + digit) limit → result ≡ min next limit
capped number value next digit result limit e f g = omega arith
