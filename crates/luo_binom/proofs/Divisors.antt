-- A quotient of products, divided before it is multiplied.
use Rattle.std.proofs.Common.{◌≡◌, ℕ, ◌*◌, ◌/◌, ◌<◌, sym, ◌∙◌, ap, subst, arith}
use Rattle.std.specs.Int.{IsGcd}
use Rattle.std.proofs.Math.Nat.{dvd-mul_left, dvd-mul_right, dvd_of_mul-dvd-mul_right, div-mul_cancel, eq_of_mul-eq-mul_left}
use Rattle.luo_num.proofs.CommonDivisors.{gcd_scaled, divisor_some}
use Prim.Native.Nat.{◌∣◌}

-- what s doesn't share with c divides m, where s divides m c
rest_divides : (c s m x g : ℕ) → 0 < s → IsGcd c s g → s * x ≡ m * c → s / g ∣ m
rest_divides c s m x g p h e =
    let both : s ∣ m * g = (gcd_scaled c s g m h).2 s (subst (λ z. s ∣ z) e (dvd-mul_right s x)) (dvd-mul_left s m) in
    dvd_of_mul-dvd-mul_right (s / g) (divisor_some c s g p h) (subst (λ z. z ∣ m * g) (sym (div-mul_cancel g h.1)) both)

-- so m c / s is a product of two quotients
pub quotient_is : (c s m x g : ℕ) → 0 < s → IsGcd c s g → s * x ≡ m * c → (c / g) * (m / (s / g)) ≡ x
quotient_is c s m x g p h e =
    eq_of_mul-eq-mul_left s p ((c / g) * (m / (s / g))) x
    (by_parts (c / g) (m / (s / g)) (s / g) (div-mul_cancel g h.0) (div-mul_cancel g h.1) (div-mul_cancel (s / g) (rest_divides c s m x g p h e)) ∙ sym e)
  where
    by_parts : (u v d : ℕ) → u * g ≡ c → d * g ≡ s → v * d ≡ m → s * (u * v) ≡ m * c
    by_parts u v d a b f = sym (ap (λ z. z * (u * v)) b) ∙ turned u v d ∙ ap (λ z. z * (u * g)) f ∙ ap (λ z. m * z) a
      where
        turned : (u v d : ℕ) → (d * g) * (u * v) ≡ (v * d) * (u * g)
        turned u v d = grind arith
