-- Fractions in lowest terms.
use Rattle.std.proofs.Common.{◌≡◌, ℕ, ◌*◌, ◌/◌, ◌<◌, refl, sym, ◌∙◌, ap, subst, arith}
use Rattle.std.specs.Int.{IsGcd}
use Rattle.std.proofs.lemmas.Nat.Gcd.{same_from_IsGcd}
use Rattle.std.proofs.Math.Nat.{div-mul_cancel, dvd_of_mul-dvd-mul_right, mul-dvd-mul_right, dvd-mul_left, eq_of_mul-eq-mul_left, one-mul}
use Rattle.luo_num.proofs.CommonDivisors.{gcd_scaled, divisor_some, quotient_some}
use Rattle.luo_fraction.specs.declared.fraction.Average.TheVariants.{Absent, Value}
use Rattle.luo_fraction.specs.Average.{IsReduced}
use Rattle.luo_fraction.specs.Laws.{AverageIsOne}
use Prim.Native.Nat.{◌∣◌}

-- the quotients of two numbers by their greatest common divisor
pub reduced : (total count g : ℕ) → 0 < count → IsGcd total count g → IsReduced total count (total / g) (count / g)
reduced total count g some m = record {
  equal = crossed (total / g) (count / g) (div-mul_cancel g m.0) (div-mul_cancel g m.1);
  whole = quotient_some total count g some m;
  lowest = (
    one_divides (total / g),
    one_divides (count / g),
    λ d a b. dvd_of_mul-dvd-mul_right d (divisor_some total count g some m)
        (subst (λ z. d * g ∣ z) (sym (one-mul g)) (m.2 (d * g)
        (subst (λ z. d * g ∣ z) (div-mul_cancel g m.0) (mul-dvd-mul_right d a g))
        (subst (λ z. d * g ∣ z) (div-mul_cancel g m.1) (mul-dvd-mul_right d b g)))),
  );
}
  where
    one_divides : (x : ℕ) → 1 ∣ x
    one_divides x = subst (λ z. 1 ∣ z) (let e : x * 1 ≡ x = omega arith in e) (dvd-mul_left 1 x)

    crossed : (p q : ℕ) → p * g ≡ total → q * g ≡ count → p * count ≡ total * q
    crossed p q a b = ap (λ z. p * z) (sym b) ∙ turned p q ∙ ap (λ z. z * q) a
      where
        turned : (p q : ℕ) → p * (q * g) ≡ (p * g) * q
        turned p q = grind arith

-- a fraction has one form in lowest terms
pub one_form : (total count p q r s : ℕ) → 0 < count → IsReduced total count p q → IsReduced total count r s → (p ≡ r) × (q ≡ s)
one_form total count p q r s some a b = (numerators, denominators)
  where
    cross : p * s ≡ r * q
    cross = eq_of_mul-eq-mul_left count some (p * s) (r * q) (turned (sym a.equal) (sym b.equal))
      where
        turned : total * q ≡ p * count → total * s ≡ r * count → count * (p * s) ≡ count * (r * q)
        turned e f = left ∙ ap (λ z. z * s) (sym e) ∙ middle ∙ ap (λ z. z * q) f ∙ right
          where
            left : count * (p * s) ≡ (p * count) * s
            left = grind arith

            middle : (total * q) * s ≡ (total * s) * q
            middle = grind arith

            right : (r * count) * q ≡ count * (r * q)
            right = grind arith

    denominators : q ≡ s
    denominators = same_from_IsGcd (q * r) (q * s) q s
        (subst (λ z. IsGcd (q * r) (q * s) z) (mul-one q) (gcd_scaled r s 1 q b.lowest))
        (subst (λ z. IsGcd z (q * s) s) (swapped p s ∙ cross ∙ swapped' r q)
        (subst (λ z. IsGcd (s * p) z s) (swapped' s q) (subst (λ z. IsGcd (s * p) (s * q) z) (mul-one s) (gcd_scaled p q 1 s a.lowest))))
      where
        mul-one : (x : ℕ) → x * 1 ≡ x
        mul-one x = grind arith

        swapped : (x y : ℕ) → y * x ≡ x * y
        swapped x y = grind arith

        swapped' : (x y : ℕ) → x * y ≡ y * x
        swapped' x y = grind arith

    numerators : p ≡ r
    numerators = eq_of_mul-eq-mul_left q a.whole p r (crossed denominators)
      where
        crossed : q ≡ s → q * p ≡ q * r
        crossed e = left ∙ ap (λ z. p * z) e ∙ cross ∙ right
          where
            left : q * p ≡ p * q
            left = grind arith

            right : r * q ≡ q * r
            right = grind arith

pub average-is_one : AverageIsOne
average-is_one total count Absent Absent a b = refl
average-is_one total count Absent (Value p q) a b = absurd (omega (arith, a, b.0))
average-is_one total count (Value p q) Absent a b = absurd (omega (arith, a.0, b))
average-is_one total count (Value p q) (Value r s) a b =
    let same = one_form total count p q r s a.0 a.1 b.1 in ap (λ z. Value z q) same.0 ∙ ap (λ z. Value r z) same.1
