-- The laws of the four-fold numbers.
use Rattle.std.proofs.Common.{◌≡◌, ℕ, ◌+◌, ◌*◌, List, [], ◌∷◌, refl, sym, ap, subst, arith}
use Rattle.std.proofs.Math.Nat.{mul_assoc}
use Rattle.luo_finite.specs.Each.{total}
use Rattle.luo_counting.specs.Weights.{IsAlgebra, times, product}
use Rattle.luo_counting.specs.Fours.{Four, Place, plain, left, right, both, four_table, four, point}

pub four_unit : (x : Place → ℕ) (k : Place) → times four_table (four 1 0 0 0) x k ≡ x k
four_unit x plain = omega arith
four_unit x left = omega arith
four_unit x right = omega arith
four_unit x both = omega arith

-- (a b) c = a (b c), in terms of atoms
pub four_joins : (x y z : Place → ℕ) (k : Place) → times four_table (times four_table x y) z k ≡ times four_table x (times four_table y z) k
four_joins x y z plain = omega (arith, one (x plain) (y plain) (z plain))
  where
    one : (a b c : ℕ) → (a * b + 0) * c + 0 ≡ a * (b * c + 0) + 0
    one a b c = omega (arith, ap (λ m. m * c) (let q : a * b + 0 ≡ a * b = omega arith in q), ap (λ m. a * m) (let q : b * c + 0 ≡ b * c = omega arith in q), mul_assoc a b c)
four_joins x y z left = grind arith
four_joins x y z right = grind arith
four_joins x y z both = grind arith

pub four_algebra : IsAlgebra Four
four_algebra = record { unit_left = four_unit; joins = four_joins }

-- the weight of a list is the point of its two sums
pub product-point : {A : Type 0} (v w : A → ℕ) (xs : List A) (k : Place) → product Four (point v w) xs k ≡ point (total v) (total w) xs k
product-point v w [] plain = refl
product-point v w [] left = refl
product-point v w [] right = refl
product-point v w [] both = refl
product-point v w (x ∷ xs) plain = omega (arith, product-point v w xs plain)
product-point v w (x ∷ xs) left = omega (arith, product-point v w xs plain, product-point v w xs left, ap (λ m. v x * m) (product-point v w xs plain))
product-point v w (x ∷ xs) right = omega (arith, product-point v w xs plain, product-point v w xs right, ap (λ m. w x * m) (product-point v w xs plain))
product-point v w (x ∷ xs) both = joined (v x) (w x) (total v xs) (total w xs) (product Four (point v w) xs plain) (product Four (point v w) xs left) (product Four (point v w) xs right) (product Four (point v w) xs both)
    (product-point v w xs plain) (product-point v w xs left) (product-point v w xs right) (product-point v w xs both)
  where
    joined : (a b s t c p q r : ℕ) → c ≡ 1 → p ≡ s → q ≡ t → r ≡ s * t → a * b * c + (a * q + (b * p + (1 * r + 0))) ≡ (a + s) * (b + t)
    joined a b s t c p q r e f g h = subst (λ c. a * b * c + (a * q + (b * p + (1 * r + 0))) ≡ (a + s) * (b + t)) (sym e)
        (subst (λ p. a * b * 1 + (a * q + (b * p + (1 * r + 0))) ≡ (a + s) * (b + t)) (sym f)
        (subst (λ q. a * b * 1 + (a * q + (b * s + (1 * r + 0))) ≡ (a + s) * (b + t)) (sym g)
        (subst (λ r. a * b * 1 + (a * t + (b * s + (1 * r + 0))) ≡ (a + s) * (b + t)) (sym h) (plain_joined a b s t))))
      where
        plain_joined : (a b s t : ℕ) → a * b * 1 + (a * t + (b * s + (1 * (s * t) + 0))) ≡ (a + s) * (b + t)
        plain_joined a b s t = grind arith
