-- The ways to share a number among two and among several.
use Rattle.std.proofs.Common.{◌≡◌, ℕ, suc, ◌+◌, ◌*◌, ◌-◌, ◌≤◌, ◌<◌, [], ◌∷◌, refl, sym, ◌∙◌, ap, subst, arith}
use Rattle.std.proofs.Math.Nat.{mul_comm}
use Rattle.luo_finite.specs.Listing.{In, Sums}
use Rattle.luo_finite.specs.Range.{below, sum_below, convolve, unit, convolve_all}
use Rattle.luo_finite.proofs.Sums.{Sums-iff}
use Rattle.luo_finite.proofs.Products.{Sums-pairs}
use Rattle.luo_finite.proofs.Ranges.{In-below, below_In, sum_below-same, sum_below-shift, sum_below-reverse, sum_below-zero, sum_below-term, Sums-over_below}

-- as a sum over a range
pub convolve-is : (a b : ℕ → ℕ) (n : ℕ) → convolve a b n ≡ sum_below (λ k. a k * b (n - k)) (suc n)
unfolding convolve
convolve-is a b n = refl

-- it looks at numbers up to n alone
pub convolve-same : (a b c d : ℕ → ℕ) (n : ℕ) → ((k : ℕ) → k ≤ n → a k ≡ c k) → ((k : ℕ) → k ≤ n → b k ≡ d k) → convolve a b n ≡ convolve c d n
unfolding convolve
convolve-same a b c d n e f =
    sum_below-same (λ k. a k * b (n - k)) (λ k. c k * d (n - k)) (suc n)
    (λ k h. ap (λ x. x * b (n - k)) (e k (omega arith)) ∙ ap (λ x. c k * x) (f (n - k) (omega arith)))

-- the two may change places
pub convolve-swap : (a b : ℕ → ℕ) (n : ℕ) → convolve a b n ≡ convolve b a n
unfolding convolve
convolve-swap a b n =
    sym (sum_below-reverse (λ k. a k * b (n - k)) (suc n))
    ∙ sum_below-same (λ k. a (suc n - suc k) * b (n - (suc n - suc k))) (λ k. b k * a (n - k)) (suc n)
    (λ k h. ap (λ x. x * b (n - (suc n - suc k))) (ap a (first k)) ∙ ap (λ x. a (n - k) * x) (ap b (second k h)) ∙ mul_comm (a (n - k)) (b k))
  where
    first : (k : ℕ) → suc n - suc k ≡ n - k
    first k = omega arith

    second : (k : ℕ) → k < suc n → n - (suc n - suc k) ≡ k
    second k h = omega arith

-- each way to share is within the whole
pub convolve-term : (a b : ℕ → ℕ) (k n : ℕ) → k ≤ n → a k * b (n - k) ≤ convolve a b n
unfolding convolve
convolve-term a b k n h = sum_below-term (λ i. a i * b (n - i)) k (suc n) (omega arith)

pub convolve-within : (a b : ℕ → ℕ) (m r : ℕ) → a m * b r ≤ convolve a b (m + r)
convolve-within a b m r = subst (λ k. a m * b k ≤ convolve a b (m + r)) (rest m r) (convolve-term a b m (m + r) (omega arith))
  where
    rest : (m r : ℕ) → m + r - m ≡ r
    rest m r = omega arith

-- shared with what has one way to be nothing, and none to be more
pub unit-convolve : (a : ℕ → ℕ) (n : ℕ) → convolve unit a n ≡ a n
unfolding convolve
unit-convolve a n =
    let e : sum_below (λ k. unit k * a (n - k)) (suc n) ≡ 1 * a (n - 0) + sum_below (λ k. 0 * a (n - suc k)) n = sum_below-shift (λ k. unit k * a (n - k)) n in
    let z : sum_below (λ k. 0 * a (n - suc k)) n ≡ 0 = sum_below-zero (λ k. 0 * a (n - suc k)) n (λ k h. omega arith) in
    let d : a (n - 0) ≡ a n = ap a (omega arith) in
    omega arith

pub convolve-unit : (a : ℕ → ℕ) (n : ℕ) → convolve a unit n ≡ a n
convolve-unit a n = convolve-swap a unit n ∙ unit-convolve a n

pub convolve_all-one : (a : ℕ → ℕ) (n : ℕ) → convolve_all (a ∷ []) n ≡ a n
convolve_all-one a n = convolve-unit a n

-- pairs of things of sizes that make n together
abbrev pub Shared : {A B : Type 0} → (ℕ → A → Type 0) → (ℕ → B → Type 0) → ℕ → A × B → Type 0
Shared P R n z = (k : ℕ) × (k ≤ n) × P k z.0 × R (n - k) z.1

-- their sum is the ways to share n
pub Sums-shared : {A B : Type 0} (P : ℕ → A → Type 0) (R : ℕ → B → Type 0) (f : A → ℕ) (g : B → ℕ) (a b : ℕ → ℕ) (n : ℕ) → ((i j : ℕ) (x : A) → P i x → P j x → i ≡ j) → ((k : ℕ) → k ≤ n → Sums (P k) f (a k)) → ((k : ℕ) → k ≤ n → Sums (R k) g (b k)) → Sums (Shared P R n) (λ z. f z.0 * g z.1) (convolve a b n)
unfolding convolve
Sums-shared {A} {B} P R f g a b n one s t =
    Sums-iff (λ z. (k : ℕ) × In k (below (suc n)) × (P k z.0 × R (n - k) z.1)) (Shared P R n) (λ z. f z.0 * g z.1) (sum_below (λ k. a k * b (n - k)) (suc n))
    (λ z r. (r.0, inside r.0 (below_In (suc n) r.0 r.1), r.2.0, r.2.1))
    (λ z r. (r.0, In-below (suc n) r.0 (omega (arith, r.1)), (r.2, r.3)))
    (Sums-over_below (λ k (z : A × B). P k z.0 × R (n - k) z.1) (λ z. f z.0 * g z.1) (λ k. a k * b (n - k)) (suc n)
    (λ i j z p q. one i j z.0 p.0 q.0)
    (λ k h. Sums-pairs (P k) (R (n - k)) f g (a k) (b (n - k)) (s k (omega arith)) (t (n - k) (omega arith))))
  where
    inside : (k : ℕ) → k < suc n → k ≤ n
    inside k h = omega arith
