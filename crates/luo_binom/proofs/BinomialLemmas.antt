-- Binomials: one more is taken, as many are left out, and up to half of the things they rise.
use Rattle.std.proofs.Common.{◌≡◌, ℕ, zero, suc, ◌+◌, ◌*◌, ◌-◌, ◌≤◌, refl, sym, ◌∙◌, ap, subst, arith}
use Rattle.std.proofs.Math.Nat.{add-mul, mul-zero, le_of_mul-le-mul_left, mul-le-mul_right}
use Rattle.luo_finite.specs.Binomial.{choose}
use Rattle.luo_finite.proofs.Binomials.{choose-self}
use Rattle.luo_binom.specs.Laws.{BinomialsStep}

-- one more taken, with nothing subtracted
absorb : (n k : ℕ) → suc k * choose n (suc k) + k * choose n k ≡ n * choose n k
absorb zero zero = refl
absorb zero (suc k) = omega (arith, mul-zero (suc (suc k)), mul-zero (suc k))
absorb (suc n) zero = omega (arith, absorb n zero)
absorb (suc n) (suc k) = by_parts (choose n k) (choose n (suc k)) (choose n (suc (suc k))) (absorb n (suc k)) (absorb n k)
  where
    by_parts : (x y z : ℕ) → suc (suc k) * z + suc k * y ≡ n * y → suc k * y + k * x ≡ n * x → suc (suc k) * (y + z) + suc k * (x + y) ≡ suc n * (x + y)
    by_parts x y z e f = grind arith

pub next_choice : (m j : ℕ) → suc j * choose (m + j) (suc j) ≡ m * choose (m + j) j
next_choice m j = omega (arith, absorb (m + j) j, add-mul m j (choose (m + j) j))

-- as many choices leave m as take m
pub left_out : (m j : ℕ) → choose (m + j) j ≡ choose (m + j) m
left_out zero j = ap (λ n. choose n j) (let q : 0 + j ≡ j = omega arith in q) ∙ choose-self j
left_out (suc m) zero = sym (ap (λ n. choose n (suc m)) (let q : suc m + 0 ≡ suc m = omega arith in q) ∙ choose-self (suc m))
left_out (suc m) (suc j) =
    let e : suc m + suc j ≡ suc (m + suc j) = omega arith in
    let f : suc m + j ≡ m + suc j = omega arith in
    let g : choose (m + suc j) j ≡ choose (m + suc j) (suc m) = subst (λ n. choose n j ≡ choose n (suc m)) f (left_out (suc m) j) in
    let h : choose (m + suc j) (suc j) ≡ choose (m + suc j) m = left_out m (suc j) in
    let l : choose (suc m + suc j) (suc j) ≡ choose (m + suc j) j + choose (m + suc j) (suc j) = ap (λ n. choose n (suc j)) e in
    let r : choose (suc m + suc j) (suc m) ≡ choose (m + suc j) m + choose (m + suc j) (suc m) = ap (λ n. choose n (suc m)) e in
    omega (arith, g, h, l, r)

pub binomials_step : BinomialsStep
binomials_step = (next_choice, left_out)

-- with fewer than half taken, one more has no fewer choices
rises : (m i : ℕ) → suc i ≤ m → choose (m + i) i ≤ choose (m + i) (suc i)
rises m i h = le_of_mul-le-mul_left {k = suc i} (subst (λ n. suc i * choose (m + i) i ≤ n) (sym (next_choice m i)) (mul-le-mul_right (choose (m + i) i) h)) (omega arith)

rises_at : (a i : ℕ) → suc (i + i) ≤ a → choose a i ≤ choose a (suc i)
rises_at a i h = subst (λ n. choose n i ≤ choose n (suc i)) (let q : a - i + i ≡ a = omega (arith, h) in q) (rises (a - i) i (omega (arith, h)))

rise_by : (a i d : ℕ) → (i + d) + (i + d) ≤ a → choose a i ≤ choose a (i + d)
rise_by a i zero h = subst (λ k. choose a i ≤ choose a k) (let q : i ≡ i + 0 = omega arith in q) (omega arith)
rise_by a i (suc d) h =
    let e : suc (i + d) ≡ i + suc d = omega arith in
    let l : choose a i ≤ choose a (i + d) = rise_by a i d (omega (arith, h)) in
    let r : choose a (i + d) ≤ choose a (suc (i + d)) = rises_at a (i + d) (omega (arith, h)) in
    subst (λ k. choose a i ≤ choose a k) e (omega (arith, l, r))

pub few_rise : (a i k : ℕ) → i ≤ k → k + k ≤ a → choose a i ≤ choose a k
few_rise a i k h l = subst (λ j. choose a i ≤ choose a j) (let q : i + (k - i) ≡ k = omega (arith, h) in q) (rise_by a i (k - i) (omega (arith, h, l)))

-- the same at a number of things
pub next_of : (a i : ℕ) → i ≤ a → suc i * choose a (suc i) ≡ (a - i) * choose a i
next_of a i h = subst (λ n. suc i * choose n (suc i) ≡ (a - i) * choose n i) (let q : a - i + i ≡ a = omega (arith, h) in q) (next_choice (a - i) i)

pub others_of : (a j : ℕ) → j ≤ a → choose a (a - j) ≡ choose a j
others_of a j h = subst (λ n. choose n (a - j) ≡ choose n j) (let q : a - j + j ≡ a = omega (arith, h) in q) (sym (left_out (a - j) j))
