-- Rules 3, 4 and 6 as they are written: the sums over the sizes and over the numbers of copies change places.
use Rattle.std.proofs.Common.{◌≡◌, ℕ, zero, suc, ◌+◌, ◌*◌, ◌-◌, refl, sym, ◌∙◌, ap, arith, ℤ, pos, ◌+ℤ◌, ◌-ℤ◌, ◌*ℤ◌}
use Rattle.std.proofs.Math.IntN.{zero-*ℤ, *ℤ-zero}
use Rattle.std.proofs.Math.Nat.{add-mul}
use Rattle.std.proofs.lemmas.Int.{ints}
use Rattle.luo_model.specs.declared.program.Kind.{Kind}
use Rattle.luo_model.specs.declared.program.Kind.TheVariants.{Sequence, Set, Cycle, Multiset, Powerset}
use Rattle.luo_equation.specs.Series.{floor, sum_z, over_splits_z, over_shares_z, shifted, join, bags, copies}
use Rattle.luo_finite.specs.Binomial.{choose}
use Rattle.luo_finite.proofs.Binomials.{choose-past}
use Rattle.luo_equation.specs.Written.{ProductIsBinomial, alternate, signed, rule, BagsAreByRule, PointsAreByRule}
use Rattle.luo_equation.proofs.Integers.{mul-add_z, add-mul_z, mul-sub_z, one-mul_z}
use Rattle.luo_equation.proofs.SeriesLemmas.{sum_z-same, sum_z-add, sum_z-zero, sum_z-shift, shifted-add, shifted-sub, shifted-zero}
use Rattle.luo_equation.proofs.Copies.{shifted-join}

shifted-sum : (s : ℕ) (f : ℕ → ℕ → ℤ) (n d : ℕ) → shifted s (λ m. sum_z (λ j. f j m) d) n ≡ sum_z (λ j. shifted s (f j) n) d
shifted-sum s f n zero = shifted-zero s n
shifted-sum s f n (suc d) = shifted-add s (f d) (λ m. sum_z (λ j. f j m) d) n ∙ ap (λ z. shifted s (f d) n +ℤ z) (shifted-sum s f n d)

shifted-alternate : (s j : ℕ) (f : ℕ → ℤ) (n : ℕ) → shifted s (λ m. alternate j (f m)) n ≡ alternate j (shifted s f n)
shifted-alternate s zero f n = refl
shifted-alternate s (suc j) f n = shifted-sub s (λ m. pos 0) (λ m. alternate j (f m)) n ∙ ap (λ z. z -ℤ shifted s (λ m. alternate j (f m)) n) (shifted-zero s n) ∙ ap (λ z. pos 0 -ℤ z) (shifted-alternate s j f n)

shifted-signed : (kind : Kind) (s j : ℕ) (f : ℕ → ℤ) (n : ℕ) → shifted s (λ m. signed kind j (f m)) n ≡ signed kind j (shifted s f n)
shifted-signed Sequence s j f n = refl
shifted-signed Set s j f n = refl
shifted-signed Cycle s j f n = refl
shifted-signed Multiset s j f n = refl
shifted-signed Powerset s j f n = shifted-alternate s j f n

shifted-low : (s t : ℕ) (f : ℕ → ℤ) → shifted (suc s + t) f zero ≡ pos 0
shifted-low s t f = ap (λ m. shifted m f zero) (let q : suc s + t ≡ suc (s + t) = omega arith in q)

shifted-shifted : (s t : ℕ) (f : ℕ → ℤ) (n : ℕ) → shifted s (shifted t f) n ≡ shifted (s + t) f n
shifted-shifted zero t f n = ap (λ m. shifted m f n) (let q : t ≡ 0 + t = omega arith in q)
shifted-shifted (suc s) t f zero = sym (shifted-low s t f)
shifted-shifted (suc s) t f (suc n) = shifted-shifted s t f n ∙ ap (λ m. shifted m f (suc n)) (let q : suc (s + t) ≡ suc s + t = omega arith in q)

sum_z-less : (f : ℕ → ℤ) (d : ℕ) → sum_z (λ j. pos 0 -ℤ f j) d ≡ pos 0 -ℤ sum_z f d
sum_z-less f zero = refl
sum_z-less f (suc d) = omega (arith, ints, sum_z-less f d)

join-sum : (kind : Kind) (x : ℤ) (f : ℕ → ℤ) (d : ℕ) → join kind x (sum_z (λ j. signed kind j (f j)) d) ≡ x +ℤ sum_z (λ j. signed kind (suc j) (f j)) d
join-sum Sequence x f d = refl
join-sum Set x f d = refl
join-sum Cycle x f d = refl
join-sum Multiset x f d = refl
join-sum Powerset x f d = omega (arith, ints, sum_z-less (λ j. alternate j (f j)) d)

signed-first : (kind : Kind) (z : ℤ) → signed kind 0 z ≡ z
signed-first Sequence z = refl
signed-first Set z = refl
signed-first Cycle z = refl
signed-first Multiset z = refl
signed-first Powerset z = refl

-- the copies of one size, one number of copies at a time
copies-written : (kind : Kind) (a : ℕ → ℤ) (k m n : ℕ) → copies kind a k m n ≡ sum_z (λ j. signed kind j (shifted (suc j * m) (bags kind a (k - suc j)) n)) k
copies-written kind a zero m n = refl
copies-written kind a (suc k) m n =
    let f : ℕ → ℤ = λ j. shifted (suc (suc j) * m) (bags kind a (suc k - suc (suc j))) n in
    let e : shifted m (copies kind a k m) n ≡ sum_z (λ j. signed kind j (f j)) k =
    ap (λ (g : ℕ → ℤ). shifted m g n) (λ i l. copies-written kind a k m l i)
    ∙ shifted-sum m (λ j l. signed kind j (shifted (suc j * m) (bags kind a (k - suc j)) l)) n k
    ∙ sum_z-same (λ j. shifted m (λ l. signed kind j (shifted (suc j * m) (bags kind a (k - suc j)) l)) n) (λ j. signed kind j (f j)) k (λ j l.
    shifted-signed kind m j (shifted (suc j * m) (bags kind a (k - suc j))) n
    ∙ ap (signed kind j) (shifted-shifted m (suc j * m) (bags kind a (k - suc j)) n ∙ ap (λ s. shifted s (bags kind a (k - suc j)) n) (more j m) ∙ ap (λ i. shifted (suc (suc j) * m) (bags kind a i) n) (let q : k - suc j ≡ suc k - suc (suc j) = omega arith in q))) in
    let first : signed kind 0 (shifted (suc 0 * m) (bags kind a (suc k - suc 0)) n) ≡ shifted m (bags kind a k) n =
    signed-first kind (shifted (suc 0 * m) (bags kind a (suc k - suc 0)) n) ∙ ap (λ s. shifted s (bags kind a (suc k - suc 0)) n) (let q : suc 0 * m ≡ m = omega arith in q) ∙ ap (λ i. shifted m (bags kind a i) n) (let q : suc k - suc 0 ≡ k = omega arith in q) in
    shifted-join kind m (bags kind a k) (copies kind a k m) n
    ∙ ap (λ z. join kind (shifted m (bags kind a k) n) z) e
    ∙ join-sum kind (shifted m (bags kind a k) n) f k
    ∙ ap (λ z. z +ℤ sum_z (λ j. signed kind (suc j) (f j)) k) (sym first)
    ∙ sym (sum_z-shift (λ j. signed kind j (shifted (suc j * m) (bags kind a (suc k - suc j)) n)) k)
  where
    more : (j m : ℕ) → m + suc j * m ≡ suc (suc j) * m
    more j m = sym (ap (λ i. i * m) (let q : suc (suc j) ≡ 1 + suc j = omega arith in q) ∙ add-mul 1 (suc j) m ∙ ap (λ i. i + suc j * m) (let q : 1 * m ≡ m = omega arith in q))

-- ---- sums change places
times-sum : (c : ℤ) (f : ℕ → ℤ) (d : ℕ) → c *ℤ sum_z f d ≡ sum_z (λ j. c *ℤ f j) d
times-sum c f zero = *ℤ-zero c
times-sum c f (suc d) = mul-add_z c (f d) (sum_z f d) ∙ ap (λ z. c *ℤ f d +ℤ z) (times-sum c f d)

times-alternate : (c : ℤ) (j : ℕ) (z : ℤ) → c *ℤ alternate j z ≡ alternate j (c *ℤ z)
times-alternate c zero z = refl
times-alternate c (suc j) z = mul-sub_z c (pos 0) (alternate j z) ∙ ap (λ y. y -ℤ c *ℤ alternate j z) (*ℤ-zero c) ∙ ap (λ y. pos 0 -ℤ y) (times-alternate c j z)

times-signed : (kind : Kind) (c : ℤ) (j : ℕ) (z : ℤ) → c *ℤ signed kind j z ≡ signed kind j (c *ℤ z)
times-signed Sequence c j z = refl
times-signed Set c j z = refl
times-signed Cycle c j z = refl
times-signed Multiset c j z = refl
times-signed Powerset c j z = times-alternate c j z

sum-alternate : (j : ℕ) (f : ℕ → ℤ) (d : ℕ) → sum_z (λ m. alternate j (f m)) d ≡ alternate j (sum_z f d)
sum-alternate zero f d = refl
sum-alternate (suc j) f d = sum_z-less (λ m. alternate j (f m)) d ∙ ap (λ z. pos 0 -ℤ z) (sum-alternate j f d)

sum-signed : (kind : Kind) (j : ℕ) (f : ℕ → ℤ) (d : ℕ) → sum_z (λ m. signed kind j (f m)) d ≡ signed kind j (sum_z f d)
sum-signed Sequence j f d = refl
sum-signed Set j f d = refl
sum-signed Cycle j f d = refl
sum-signed Multiset j f d = refl
sum-signed Powerset j f d = sum-alternate j f d

sum_z-swap : (f : ℕ → ℕ → ℤ) (d e : ℕ) → sum_z (λ i. sum_z (λ j. f i j) e) d ≡ sum_z (λ j. sum_z (λ i. f i j) d) e
sum_z-swap f zero e = sym (sum_z-zero (λ j. pos 0) e (λ j l. refl))
sum_z-swap f (suc d) e = ap (λ z. sum_z (λ j. f d j) e +ℤ z) (sum_z-swap f d e) ∙ sym (sum_z-add (λ j. f d j) (λ j. sum_z (λ i. f i j) d) e)

pub dividend-written : (kind : Kind) (a b : ℕ → ℤ) (k n : ℕ) → sum_z (λ m. b m *ℤ copies kind a k m n) (suc n) ≡ rule kind a b k n
dividend-written kind a b k n =
    let X : ℕ → ℕ → ℤ = λ j m. shifted (suc j * m) (bags kind a (k - suc j)) n in
    sum_z-same (λ m. b m *ℤ copies kind a k m n) (λ m. sum_z (λ j. signed kind j (b m *ℤ X j m)) k) (suc n) (λ m l.
    ap (λ z. b m *ℤ z) (copies-written kind a k m n) ∙ times-sum (b m) (λ j. signed kind j (X j m)) k ∙ sum_z-same (λ j. b m *ℤ signed kind j (X j m)) (λ j. signed kind j (b m *ℤ X j m)) k (λ j i. times-signed kind (b m) j (X j m)))
    ∙ sum_z-swap (λ m j. signed kind j (b m *ℤ X j m)) (suc n) k
    ∙ sum_z-same (λ j. sum_z (λ m. signed kind j (b m *ℤ X j m)) (suc n)) (λ j. signed kind j (sum_z (λ m. b m *ℤ X j m) (suc n))) k (λ j i. sum-signed kind j (λ m. b m *ℤ X j m) (suc n))

pub bags-by_rule : BagsAreByRule
bags-by_rule kind a k n = ap (λ z. floor z (suc k)) (dividend-written kind a a (suc k) n)

pub points-by_rule : PointsAreByRule
points-by_rule a b k n = (dividend-written Multiset a b (suc k) n, dividend-written Powerset a b (suc k) n)

-- ---- the labelled product
splits_choose_z : (c : ℕ → ℕ → ℤ) (n : ℕ) → over_splits_z c n ≡ sum_z (λ k. pos (choose n k) *ℤ c k (n - k)) (suc n)
splits_choose_z c zero = omega (arith, ints, one-mul_z (c 0 0))
splits_choose_z c (suc n) =
    let f : ℕ → ℤ = λ k. pos (choose (suc n) k) *ℤ c k (suc n - k) in
    let g : ℕ → ℤ = λ k. pos (choose n k) *ℤ c k (suc n - k) in
    let s1 : ℕ → ℤ = λ k. pos (choose n k) *ℤ c (suc k) (n - k) in
    let e1 : sum_z f (suc (suc n)) ≡ f 0 +ℤ sum_z (λ k. f (suc k)) (suc n) = sum_z-shift f (suc n) in
    let e2 : sum_z (λ k. f (suc k)) (suc n) ≡ sum_z (λ k. s1 k +ℤ g (suc k)) (suc n) = sum_z-same (λ k. f (suc k)) (λ k. s1 k +ℤ g (suc k)) (suc n) (λ k l.
    add-mul_z (pos (choose n k)) (pos (choose n (suc k))) (c (suc k) (suc n - suc k)) ∙ ap (λ m. pos (choose n k) *ℤ c (suc k) m +ℤ g (suc k)) (let q : suc n - suc k ≡ n - k = omega arith in q)) in
    let e3 : sum_z (λ k. s1 k +ℤ g (suc k)) (suc n) ≡ sum_z s1 (suc n) +ℤ sum_z (λ k. g (suc k)) (suc n) = sum_z-add s1 (λ k. g (suc k)) (suc n) in
    let e4 : sum_z g (suc (suc n)) ≡ g 0 +ℤ sum_z (λ k. g (suc k)) (suc n) = sum_z-shift g (suc n) in
    let e5 : g (suc n) ≡ pos 0 = ap (λ m. pos m *ℤ c (suc n) (suc n - suc n)) (choose-past n (suc n) (omega arith)) ∙ zero-*ℤ (c (suc n) (suc n - suc n)) in
    let e6 : sum_z g (suc n) ≡ sum_z (λ k. pos (choose n k) *ℤ c k (suc (n - k))) (suc n) = sum_z-same g (λ k. pos (choose n k) *ℤ c k (suc (n - k))) (suc n) (λ k l.
    ap (λ m. pos (choose n k) *ℤ c k m) (let q : suc n - k ≡ suc (n - k) = omega arith in q)) in
    omega (arith, ints, splits_choose_z (λ i j. c (suc i) j) n, splits_choose_z (λ i j. c i (suc j)) n, e1, e2, e3, e4, e5, e6)

pub product-binomial : ProductIsBinomial
unfolding over_shares_z
product-binomial a b n = splits_choose_z (λ i j. a i *ℤ b j) n
