-- Planes, one class of items at a time.
use Rattle.std.proofs.Common.{◌≡◌, ℕ, zero, suc, ◌+◌, ◌*◌, ◌-◌, refl, sym, ◌∙◌, ap, arith}
use Rattle.std.proofs.Math.Nat.{mul-zero, zero-mul, mul_assoc, mul_comm, mul-add, add-mul}
use Rattle.luo_finite.specs.Range.{sum_below, unit}
use Rattle.luo_finite.proofs.Ranges.{sum_below-shift, sum_below-same, sum_below-zero, sum_below-add, sum_below-times}
use Rattle.luo_model.specs.declared.program.Kind.{Kind}
use Rattle.luo_model.specs.declared.program.Kind.TheVariants.{Sequence, Set, Cycle, Multiset, Powerset}
use Rattle.luo_finite.specs.Binomial.{choose}
use Rattle.luo_counting.specs.Numbers.{repeats, chosen, chosen_totals, subset_totals, repeat_totals, back, plane, plane_totals}

-- ---- shifts
pub back-add : (s : ℕ) (f g : ℕ → ℕ) (n : ℕ) → back s (λ m. f m + g m) n ≡ back s f n + back s g n
back-add zero f g n = refl
back-add (suc s) f g zero = refl
back-add (suc s) f g (suc n) = back-add s f g n

pub back-times : (s c : ℕ) (f : ℕ → ℕ) (n : ℕ) → back s (λ m. c * f m) n ≡ c * back s f n
back-times zero c f n = refl
back-times (suc s) c f zero = sym (mul-zero c)
back-times (suc s) c f (suc n) = back-times s c f n

pub back-zero : (s n : ℕ) → back s (λ m. 0) n ≡ 0
back-zero zero n = refl
back-zero (suc s) zero = refl
back-zero (suc s) (suc n) = back-zero s n

pub back-sum : (s : ℕ) (f : ℕ → ℕ → ℕ) (n d : ℕ) → back s (λ m. sum_below (λ j. f j m) d) n ≡ sum_below (λ j. back s (f j) n) d
back-sum s f n zero = back-zero s n
back-sum s f n (suc d) = back-add s (f d) (λ m. sum_below (λ j. f j m) d) n ∙ ap (λ i. back s (f d) n + i) (back-sum s f n d)

back-low : (s t : ℕ) (f : ℕ → ℕ) → back (s + suc t) f zero ≡ 0
back-low s t f = ap (λ m. back m f zero) (let q : s + suc t ≡ suc (s + t) = omega arith in q)

pub back-back : (s t : ℕ) (f : ℕ → ℕ) (n : ℕ) → back (s + t) f n ≡ back s (back t f) n
back-back zero t f n = ap (λ m. back m f n) (let q : 0 + t ≡ t = omega arith in q)
back-back (suc s) t f zero = ap (λ m. back m f zero) (let q : suc s + t ≡ suc (s + t) = omega arith in q)
back-back (suc s) t f (suc n) = ap (λ m. back m f (suc n)) (let q : suc s + t ≡ suc (s + t) = omega arith in q) ∙ back-back s t f n

times_suc : (i s : ℕ) → suc i * s ≡ s + i * s
times_suc i s = ap (λ m. m * s) (let q : suc i ≡ 1 + i = omega arith in q) ∙ add-mul 1 i s ∙ ap (λ m. m + i * s) (let q : 1 * s ≡ s = omega arith in q)

-- ---- j items of size s, in u j ways, beside X (k - j)
abbrev pub klass : (ℕ → ℕ) → ℕ → (ℕ → ℕ → ℕ) → ℕ → ℕ → ℕ
klass u s X k n = sum_below (λ j. u j * back (j * s) (X (k - j)) n) (suc k)

-- one item more
abbrev pub shift : ℕ → (ℕ → ℕ → ℕ) → ℕ → ℕ → ℕ
shift t X zero n = 0
shift t X (suc k) n = back t (X k) n

pub klass-start : (u : ℕ → ℕ) (s : ℕ) (X : ℕ → ℕ → ℕ) (n : ℕ) → klass u s X 0 n ≡ u 0 * X 0 n
klass-start u s X n =
    let e : back (0 * s) (X (0 - 0)) n ≡ X 0 n = ap (λ m. back m (X (0 - 0)) n) (zero-mul s) ∙ ap (λ m. X m n) (let q : 0 - 0 ≡ 0 = omega arith in q) in
    omega (arith, ap (λ m. u 0 * m) e)

klass-first : (u : ℕ → ℕ) (s : ℕ) (X : ℕ → ℕ → ℕ) (k n : ℕ) → klass u s X (suc k) n ≡ u 0 * X (suc k) n + sum_below (λ j. u (suc j) * back s (back (j * s) (X (k - j))) n) (suc k)
klass-first u s X k n =
    sum_below-shift (λ j. u j * back (j * s) (X (suc k - j)) n) (suc k)
    ∙ ap (λ m. u 0 * m + sum_below (λ j. u (suc j) * back (suc j * s) (X (suc k - suc j)) n) (suc k)) (ap (λ m. back m (X (suc k - 0)) n) (zero-mul s) ∙ ap (λ m. X m n) (let q : suc k - 0 ≡ suc k = omega arith in q))
    ∙ ap (λ m. u 0 * X (suc k) n + m) (sum_below-same (λ j. u (suc j) * back (suc j * s) (X (suc k - suc j)) n) (λ j. u (suc j) * back s (back (j * s) (X (k - j))) n) (suc k) (λ j l.
    ap (λ m. u (suc j) * m)
    (ap (λ m. back m (X (suc k - suc j)) n) (times_suc j s) ∙ ap (λ m. back (s + j * s) (X m) n) (let q : suc k - suc j ≡ k - j = omega arith in q) ∙ back-back s (j * s) (X (k - j)) n)))

klass-back : (w : ℕ → ℕ) (s : ℕ) (X : ℕ → ℕ → ℕ) (k n : ℕ) → back s (klass w s X k) n ≡ sum_below (λ j. w j * back s (back (j * s) (X (k - j))) n) (suc k)
klass-back w s X k n =
    back-sum s (λ j m. w j * back (j * s) (X (k - j)) m) n (suc k)
    ∙ sum_below-same (λ j. back s (λ m. w j * back (j * s) (X (k - j)) m) n) (λ j. w j * back s (back (j * s) (X (k - j))) n) (suc k) (λ j l. back-times s (w j) (back (j * s) (X (k - j))) n)

-- THE STEP
pub klass-step : (u v w : ℕ → ℕ) (s : ℕ) (X : ℕ → ℕ → ℕ) (k n : ℕ) → u 0 ≡ v 0 → ((j : ℕ) → u (suc j) ≡ v (suc j) + w j) → klass u s X (suc k) n ≡ klass v s X (suc k) n + back s (klass w s X k) n
klass-step u v w s X k n z h =
    let B : ℕ → ℕ = λ j. back s (back (j * s) (X (k - j))) n in
    let e : sum_below (λ j. u (suc j) * B j) (suc k) ≡ sum_below (λ j. v (suc j) * B j + w j * B j) (suc k) =
    sum_below-same (λ j. u (suc j) * B j) (λ j. v (suc j) * B j + w j * B j) (suc k) (λ j l. ap (λ m. m * B j) (h j) ∙ add-mul (v (suc j)) (w j) (B j)) in
    omega (arith, klass-first u s X k n, klass-first v s X k n, klass-back w s X k n, e, sum_below-add (λ j. v (suc j) * B j) (λ j. w j * B j) (suc k), ap (λ m. m * X (suc k) n) z)

pub klass-times : (c : ℕ) (u : ℕ → ℕ) (s : ℕ) (X : ℕ → ℕ → ℕ) (k n : ℕ) → klass (λ j. c * u j) s X k n ≡ c * klass u s X k n
klass-times c u s X k n =
    sum_below-same (λ j. (c * u j) * back (j * s) (X (k - j)) n) (λ j. c * (u j * back (j * s) (X (k - j)) n)) (suc k) (λ j l. mul_assoc c (u j) (back (j * s) (X (k - j)) n))
    ∙ sum_below-times (λ j. u j * back (j * s) (X (k - j)) n) c (suc k)

pub klass-nothing : (u : ℕ → ℕ) (s : ℕ) (X : ℕ → ℕ → ℕ) (k n : ℕ) → ((j : ℕ) → u j ≡ 0) → klass u s X k n ≡ 0
klass-nothing u s X k n h = sum_below-zero (λ j. u j * back (j * s) (X (k - j)) n) (suc k) (λ j l. ap (λ m. m * back (j * s) (X (k - j)) n) (h j) ∙ zero-mul (back (j * s) (X (k - j)) n))

-- a class without items
pub klass-none : (u : ℕ → ℕ) (s : ℕ) (X : ℕ → ℕ → ℕ) (k n : ℕ) → u 0 ≡ 1 → ((j : ℕ) → u (suc j) ≡ 0) → klass u s X k n ≡ X k n
klass-none u s X zero n z h = klass-start u s X n ∙ ap (λ m. m * X 0 n) z ∙ (let q : 1 * X 0 n ≡ X 0 n = omega arith in q)
klass-none u s X (suc k) n z h =
    let B : ℕ → ℕ = λ j. back s (back (j * s) (X (k - j))) n in
    let e : sum_below (λ j. u (suc j) * B j) (suc k) ≡ 0 = sum_below-zero (λ j. u (suc j) * B j) (suc k) (λ j l. ap (λ m. m * B j) (h j) ∙ zero-mul (B j)) in
    omega (arith, klass-first u s X k n, e, ap (λ m. m * X (suc k) n) z)

-- ---- absorption: the charges of all, where each charges 1
pub repeats-zero : (a : ℕ) → repeats a 0 ≡ 1
repeats-zero zero = refl
repeats-zero (suc a) = refl

repeats-absorb : (a j : ℕ) → a * repeats (suc a) j ≡ suc j * repeats a (suc j)
repeats-absorb zero j = zero-mul (repeats 1 j) ∙ sym (mul-zero (suc j))
repeats-absorb (suc a) zero = let e : a * 1 ≡ 1 * repeats a 1 = repeats-absorb a 0 in omega (arith, e)
repeats-absorb (suc a) (suc i) =
    let r : ℕ = repeats (suc a) (suc i) in
    let e1 : suc a * repeats (suc (suc a)) i ≡ suc i * r = repeats-absorb (suc a) i in
    let e2 : a * r ≡ suc (suc i) * repeats a (suc (suc i)) = repeats-absorb a (suc i) in
    let e3 : suc a * (r + repeats (suc (suc a)) i) ≡ suc a * r + suc a * repeats (suc (suc a)) i = mul-add (suc a) r (repeats (suc (suc a)) i) in
    let e4 : suc (suc i) * (repeats a (suc (suc i)) + r) ≡ suc (suc i) * repeats a (suc (suc i)) + suc (suc i) * r = mul-add (suc (suc i)) (repeats a (suc (suc i))) r in
    omega (arith, e1, e2, e3, e4, times_suc a r, times_suc i r, times_suc (suc i) r)

choose-absorb : (a j : ℕ) → suc a * choose a j ≡ suc j * choose (suc a) (suc j)
choose-absorb zero zero = refl
choose-absorb zero (suc j) = omega (arith, mul-zero (suc (suc j)))
choose-absorb (suc c) zero = let e : suc c * 1 ≡ 1 * choose (suc c) 1 = choose-absorb c 0 in omega (arith, e)
choose-absorb (suc c) (suc i) =
    let r : ℕ = choose (suc c) (suc i) in
    let e1 : suc c * choose c i ≡ suc i * r = choose-absorb c i in
    let e2 : suc c * choose c (suc i) ≡ suc (suc i) * choose (suc c) (suc (suc i)) = choose-absorb c (suc i) in
    let e3 : suc c * r ≡ suc c * choose c i + suc c * choose c (suc i) = mul-add (suc c) (choose c i) (choose c (suc i)) in
    let e4 : suc (suc i) * (r + choose (suc c) (suc (suc i))) ≡ suc (suc i) * r + suc (suc i) * choose (suc c) (suc (suc i)) = mul-add (suc (suc i)) r (choose (suc c) (suc (suc i))) in
    omega (arith, e1, e2, e3, e4, times_suc (suc c) r, times_suc (suc i) r)

pub repeat_totals-each : (a j : ℕ) → repeat_totals a a j ≡ j * repeats a j
repeat_totals-each a zero = sym (zero-mul (repeats a 0))
repeat_totals-each a (suc j) = repeats-absorb a j

pub subset_totals-each : (a j : ℕ) → subset_totals a a j ≡ j * choose a j
subset_totals-each zero zero = refl
subset_totals-each zero (suc j) = sym (mul-zero (suc j))
subset_totals-each (suc a) zero = refl
subset_totals-each (suc a) (suc j) = choose-absorb a j

pub chosen_totals-each : (kind : Kind) (a j : ℕ) → chosen_totals kind a a j ≡ j * chosen kind a j
chosen_totals-each Sequence a j = repeat_totals-each a j
chosen_totals-each Set a j = repeat_totals-each a j
chosen_totals-each Cycle a j = repeat_totals-each a j
chosen_totals-each Multiset a j = repeat_totals-each a j
chosen_totals-each Powerset a j = subset_totals-each a j

-- the charges over a plane, where each item charges 1
pub plane_totals-each : (kind : Kind) (a : ℕ → ℕ) (d k n : ℕ) → plane_totals kind a a d k n ≡ k * plane kind a d k n
plane_totals-each kind a zero zero n = sym (zero-mul (unit n))
plane_totals-each kind a zero (suc k) n = sym (mul-zero (suc k))
plane_totals-each kind a (suc d) k n =
    let A : ℕ = a (suc d) in
    let X : ℕ → ℕ → ℕ = plane kind a d in
    let B : ℕ → ℕ = λ j. back (j * suc d) (X (k - j)) n in
    sum_below-same (λ j. chosen_totals kind A A j * B j + chosen kind A j * back (j * suc d) (plane_totals kind a a d (k - j)) n) (λ j. k * (chosen kind A j * B j)) (suc k) (λ j l.
    let e1 : back (j * suc d) (plane_totals kind a a d (k - j)) n ≡ (k - j) * B j = ap (λ f. back (j * suc d) f n) (λ i m. plane_totals-each kind a d (k - j) m i) ∙ back-times (j * suc d) (k - j) (X (k - j)) n in
    let e2 : chosen_totals kind A A j * B j ≡ j * (chosen kind A j * B j) = ap (λ m. m * B j) (chosen_totals-each kind A j) ∙ mul_assoc j (chosen kind A j) (B j) in
    let e3 : chosen kind A j * ((k - j) * B j) ≡ (k - j) * (chosen kind A j * B j) = sym (mul_assoc (chosen kind A j) (k - j) (B j)) ∙ ap (λ m. m * B j) (mul_comm (chosen kind A j) (k - j)) ∙ mul_assoc (k - j) (chosen kind A j) (B j) in
    let e4 : (j + (k - j)) * (chosen kind A j * B j) ≡ j * (chosen kind A j * B j) + (k - j) * (chosen kind A j * B j) = add-mul j (k - j) (chosen kind A j * B j) in
    let e5 : (j + (k - j)) * (chosen kind A j * B j) ≡ k * (chosen kind A j * B j) = ap (λ m. m * (chosen kind A j * B j)) (let q : j + (k - j) ≡ k = omega arith in q) in
    omega (arith, e2, ap (λ m. chosen kind A j * m) e1, e3, e4, e5))
    ∙ sum_below-times (λ j. chosen kind A j * B j) k (suc k)

chosen-none : (kind : Kind) (a : ℕ) → chosen kind a 0 ≡ 1
chosen-none Sequence a = repeats-zero a
chosen-none Set a = repeats-zero a
chosen-none Cycle a = repeats-zero a
chosen-none Multiset a = repeats-zero a
chosen-none Powerset a = refl

-- no items
pub plane-none : (kind : Kind) (a : ℕ → ℕ) (d n : ℕ) → plane kind a d 0 n ≡ unit n
plane-none kind a zero n = refl
plane-none kind a (suc d) n = klass-start (chosen kind (a (suc d))) (suc d) (plane kind a d) n ∙ ap (λ m. m * plane kind a d 0 n) (chosen-none kind (a (suc d))) ∙ (let q : 1 * plane kind a d 0 n ≡ plane kind a d 0 n = omega arith in q) ∙ plane-none kind a d n
