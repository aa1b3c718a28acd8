-- Greatest common divisors of multiples, and quotients by them.
use Rattle.std.proofs.Common.{◌≡◌, ℕ, zero, suc, ◌+◌, ◌*◌, ◌-◌, ◌/◌, ◌≤◌, ◌<◌, ◌⊎◌, ⊎_elim, refl, ap, subst, arith}
use Rattle.std.specs.Int.{IsGcd}
use Rattle.std.proofs.lemmas.Nat.Gcd.{IsGcd-from_zero, IsGcd-swap, IsGcd-from_sub, same_from_IsGcd}
use Rattle.std.proofs.Math.Nat.{mul-add, mul-zero, zero-mul, mul-le-mul_left, pos_of_dvd_of_pos, div-mul_cancel}

-- the greatest common divisor of two multiples
scaled : (n a b : ℕ) → a + b ≤ n → (g : ℕ) × IsGcd a b g × ((k : ℕ) → IsGcd (k * a) (k * b) (k * g))
scaled n a zero h = (a, IsGcd-from_zero a 0 refl, λ k. IsGcd-from_zero (k * a) (k * 0) (mul-zero k))
scaled n zero (suc b) h = (
  suc b,
  IsGcd-swap (suc b) 0 (suc b) (IsGcd-from_zero (suc b) 0 refl),
  λ k. IsGcd-swap (k * suc b) (k * 0) (k * suc b) (IsGcd-from_zero (k * suc b) (k * 0) (mul-zero k)),
)
scaled zero (suc a) (suc b) h = absurd (omega arith)
scaled (suc n) (suc a) (suc b) h = ⊎_elim
    (λ l. let r = scaled n (suc a - suc b) (suc b) (omega (arith, h, l)) in step (suc a) (suc b) r.0 l r.1 r.2)
    (λ l.
    let r = scaled n (suc b - suc a) (suc a) (omega (arith, h, l)) in
    let s = step (suc b) (suc a) r.0 (omega (arith, l)) r.1 r.2 in
    (s.0, IsGcd-swap (suc b) (suc a) s.0 s.1, λ k. IsGcd-swap (k * suc b) (k * suc a) (k * s.0) (s.2 k)))
    (le_or (suc b) (suc a))
  where
    le_or : (x y : ℕ) → (x ≤ y) ⊎ (y < x)
    le_or x y = grind arith

    step : (x y g : ℕ) → y ≤ x → IsGcd (x - y) y g → ((k : ℕ) → IsGcd (k * (x - y)) (k * y) (k * g)) → (g : ℕ) × IsGcd x y g × ((k : ℕ) → IsGcd (k * x) (k * y) (k * g))
    step x y g l m s = (
      g,
      IsGcd-from_sub x y g l m,
      λ k. IsGcd-from_sub (k * x) (k * y) (k * g) (mul-le-mul_left k l)
          (subst (λ z. IsGcd z (k * y) (k * g)) (let e : k * (x - y) ≡ k * x - k * y = omega (arith, mul-add k (x - y) y, ap (λ z. k * z) (let q : x - y + y ≡ x = omega (arith, l) in q)) in e) (s k)),
    )

pub gcd_scaled : (a b g k : ℕ) → IsGcd a b g → IsGcd (k * a) (k * b) (k * g)
gcd_scaled a b g k m =
    let r = scaled (a + b) a b (omega arith) in
    subst (λ z. IsGcd (k * a) (k * b) (k * z)) (same_from_IsGcd a b r.0 g r.1 m) (r.2 k)

-- a divisor of what isn't 0, and the quotient by it, aren't 0
pub divisor_some : (c s g : ℕ) → 0 < s → IsGcd c s g → 0 < g
divisor_some c s g p m = pos_of_dvd_of_pos m.1 p

pub quotient_some : (c s g : ℕ) → 0 < s → IsGcd c s g → 0 < s / g
quotient_some c s g p m = some (s / g) (div-mul_cancel g m.1)
  where
    some : (d : ℕ) → d * g ≡ s → 0 < d
    some zero e = absurd (omega (arith, e, zero-mul g, p))
    some (suc d) e = omega arith
