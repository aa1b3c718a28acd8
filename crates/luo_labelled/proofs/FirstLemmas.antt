-- Numbers of collections by their first component.
use Rattle.std.proofs.Common.{◌≡◌, ℕ, zero, suc, ◌+◌, ◌*◌, ◌-◌, ◌≤◌, ◌<◌, ◌⊎◌, ⊎_elim, inl, inr, Bool, true, false, Option, Some, None, refl, sym, ◌∙◌, ap, subst, arith}
use Rattle.std.proofs.Math.Nat.{mul-zero, zero-mul, mul_assoc, mul_comm, mul-add}
use Rattle.luo_finite.specs.Range.{sum_below, unit}
use Rattle.luo_finite.specs.Binomial.{choose}
use Rattle.luo_finite.proofs.Ranges.{sum_below-same, sum_below-shift, sum_below-append, sum_below-zero, sum_below-add, sum_below-times, sum_below-swap}
use Rattle.luo_model.specs.declared.program.Universe.TheVariants.{Labelled}
use Rattle.luo_model.specs.declared.program.Kind.{Kind}
use Rattle.luo_model.specs.declared.program.Kind.TheVariants.{Sequence, Set, Cycle, Multiset, Powerset}
use Rattle.luo_counting.specs.Sharing.{shares}
use Rattle.luo_counting.specs.Items.{Suits}
use Rattle.luo_counting.specs.Numbers.{rows, row_totals, sets, set_totals, cycles, cycle_totals, of_k, totals_of_k, terms, coll_count, coll_total}
use Rattle.luo_counting.proofs.Two.{share-is_binomial}
use Rattle.luo_labelled.specs.inner.Steps.{rest_of, is_led, ways, joined}

-- sequences, sets and cycles
abbrev pub IsChained : Kind → Type 0
IsChained kind = Suits Labelled kind 1

pub suits_chained : (kind : Kind) (low : ℕ) → Suits Labelled kind low → IsChained kind
suits_chained Sequence low s = tt
suits_chained Set low s = tt
suits_chained Cycle low s = omega arith
suits_chained Multiset low s = s
suits_chained Powerset low s = s

pub rest_chained : (kind : Kind) → IsChained (rest_of kind)
rest_chained Sequence = tt
rest_chained Set = tt
rest_chained Cycle = tt
rest_chained Multiset = tt
rest_chained Powerset = tt

-- it looks at smaller sizes of what is left alone
pub joined_same : (led : Bool) (a c f g : ℕ → ℕ) (n : ℕ) → ((m : ℕ) → m ≤ n → a m ≡ c m) → ((m : ℕ) → m < n → f m ≡ g m) → joined led a f n ≡ joined led c g n
joined_same led a c f g n e h =
    sum_below-same (λ j. ways led n (suc j) * (a (suc j) * f (n - suc j))) (λ j. ways led n (suc j) * (c (suc j) * g (n - suc j))) n
    (λ j l. ap (λ i. ways led n (suc j) * (i * f (n - suc j))) (e (suc j) (omega (arith, l))) ∙ ap (λ i. ways led n (suc j) * (c (suc j) * i)) (h (n - suc j) (omega (arith, l))))

pub joined_none : (led : Bool) (a f : ℕ → ℕ) (n : ℕ) → ((m : ℕ) → m < n → f m ≡ 0) → joined led a f n ≡ 0
joined_none led a f n h = sum_below-zero (λ j. ways led n (suc j) * (a (suc j) * f (n - suc j))) n
    (λ j l. ap (λ i. ways led n (suc j) * (a (suc j) * i)) (h (n - suc j) (omega (arith, l))) ∙ ap (λ i. ways led n (suc j) * i) (mul-zero (a (suc j))) ∙ mul-zero (ways led n (suc j)))

-- a sum of multiples stands behind the first component as well as before it
pub joined_sums : (led : Bool) (a c : ℕ → ℕ) (V : ℕ → ℕ → ℕ) (n T : ℕ) → sum_below (λ k. c k * joined led a (V k) n) T ≡ joined led a (λ m. sum_below (λ k. c k * V k m) T) n
joined_sums led a c V n T =
    sum_below-same (λ k. c k * joined led a (V k) n) (λ k. sum_below (λ j. c k * term k j) n) T (λ k l. sym (sum_below-times (term k) (c k) n))
    ∙ sum_below-swap (λ k j. c k * term k j) T n
    ∙ sum_below-same (λ j. sum_below (λ k. c k * term k j) T) (λ j. ways led n (suc j) * (a (suc j) * sum_below (λ k. c k * V k (n - suc j)) T)) n (λ j l. out j)
  where
    term : ℕ → ℕ → ℕ
    term k j = ways led n (suc j) * (a (suc j) * V k (n - suc j))

    moved : (c w a v : ℕ) → c * (w * (a * v)) ≡ w * (a * (c * v))
    moved c w a v = grind arith

    out : (j : ℕ) → sum_below (λ k. c k * (ways led n (suc j) * (a (suc j) * V k (n - suc j)))) T ≡ ways led n (suc j) * (a (suc j) * sum_below (λ k. c k * V k (n - suc j)) T)
    out j =
        sum_below-same (λ k. c k * (ways led n (suc j) * (a (suc j) * V k (n - suc j)))) (λ k. ways led n (suc j) * (a (suc j) * (c k * V k (n - suc j)))) T (λ k l. moved (c k) (ways led n (suc j)) (a (suc j)) (V k (n - suc j)))
        ∙ sum_below-times (λ k. a (suc j) * (c k * V k (n - suc j))) (ways led n (suc j)) T
        ∙ ap (λ i. ways led n (suc j) * i) (sum_below-times (λ k. c k * V k (n - suc j)) (a (suc j)) T)

-- shared labels, with any of them or with the least in the first
shares_joined : (a f : ℕ → ℕ) (n : ℕ) → a 0 ≡ 0 → shares Labelled a f n ≡ joined false a f n
shares_joined a f n z =
    let g : ℕ → ℕ = λ j. choose n j * (a j * f (n - j)) in
    let e : sum_below g (suc n) ≡ g 0 + sum_below (λ j. g (suc j)) n = sum_below-shift g n in
    let h : g 0 ≡ 0 = ap (λ i. choose n 0 * (i * f (n - 0))) z ∙ ap (λ i. choose n 0 * i) (zero-mul (f (n - 0))) ∙ mul-zero (choose n 0) in
    share-is_binomial a f n ∙ omega (arith, e, h)

led_joined : (a f : ℕ → ℕ) (n : ℕ) → shares Labelled (λ i. a (suc i)) f n ≡ joined true a f (suc n)
led_joined a f n =
    share-is_binomial (λ i. a (suc i)) f n
    ∙ sum_below-same (λ j. choose n j * (a (suc j) * f (n - j))) (λ j. choose (suc n - 1) (suc j - 1) * (a (suc j) * f (suc n - suc j))) (suc n)
    (λ j l. ap (λ i. choose i j * (a (suc j) * f (n - j))) (let q : n ≡ suc n - 1 = omega arith in q) ∙ ap (λ i. choose (suc n - 1) i * (a (suc j) * f (n - j))) (let q : j ≡ suc j - 1 = omega arith in q)
    ∙ ap (λ i. choose (suc n - 1) (suc j - 1) * (a (suc j) * f i)) (let q : n - j ≡ suc n - suc j = omega arith in q))

-- k + 1 components are a first one and k others
pub of_first : (kind : Kind) (a : ℕ → ℕ) (k n : ℕ) → IsChained kind → a 0 ≡ 0 → of_k Labelled kind a (suc k) n ≡ joined (is_led kind) a (λ m. of_k Labelled (rest_of kind) a k m) n
of_first Sequence a k n s z = shares_joined a (rows Labelled a k) n z
of_first Set a k zero s z = refl
of_first Set a k (suc n) s z = led_joined a (sets a k) n
of_first Cycle a k zero s z = refl
of_first Cycle a k (suc n) s z = led_joined a (rows Labelled a k) n
of_first Multiset a k n s z = absurd s
of_first Powerset a k n s z = absurd s

pub totals_first : (kind : Kind) (a b : ℕ → ℕ) (k n : ℕ) → IsChained kind → a 0 ≡ 0 → b 0 ≡ 0
    → totals_of_k Labelled kind a b (suc k) n ≡ joined (is_led kind) b (λ m. of_k Labelled (rest_of kind) a k m) n + joined (is_led kind) a (λ m. totals_of_k Labelled (rest_of kind) a b k m) n
totals_first Sequence a b k n s z y = omega (arith, shares_joined b (rows Labelled a k) n y, shares_joined a (row_totals Labelled a b k) n z)
totals_first Set a b k zero s z y = refl
totals_first Set a b k (suc n) s z y = omega (arith, led_joined b (sets a k) n, led_joined a (set_totals a b k) n)
totals_first Cycle a b k zero s z y = refl
totals_first Cycle a b k (suc n) s z y = omega (arith, led_joined b (rows Labelled a k) n, led_joined a (row_totals Labelled a b k) n)
totals_first Multiset a b k n s z y = absurd s
totals_first Powerset a b k n s z y = absurd s

-- no size is less than the number of components
pub of_many : (kind : Kind) (a : ℕ → ℕ) (k n : ℕ) → IsChained kind → a 0 ≡ 0 → n < k → of_k Labelled kind a k n ≡ 0
of_many kind a zero n s z h = absurd (omega arith)
of_many kind a (suc k) n s z h = of_first kind a k n s z ∙ joined_none (is_led kind) a (λ m. of_k Labelled (rest_of kind) a k m) n (λ m l. of_many (rest_of kind) a k m (rest_chained kind) z (omega (arith, l, h)))

totals_none : (kind : Kind) (a b : ℕ → ℕ) (n : ℕ) → IsChained kind → totals_of_k Labelled kind a b 0 n ≡ 0
totals_none Sequence a b n s = refl
totals_none Set a b n s = refl
totals_none Cycle a b n s = refl
totals_none Multiset a b n s = absurd s
totals_none Powerset a b n s = absurd s

pub totals_many : (kind : Kind) (a b : ℕ → ℕ) (k n : ℕ) → IsChained kind → a 0 ≡ 0 → b 0 ≡ 0 → n < k → totals_of_k Labelled kind a b k n ≡ 0
totals_many kind a b zero n s z y h = absurd (omega arith)
totals_many kind a b (suc k) n s z y h =
    let e = joined_none (is_led kind) b (λ m. of_k Labelled (rest_of kind) a k m) n (λ m l. of_many (rest_of kind) a k m (rest_chained kind) z (omega (arith, l, h))) in
    let f = joined_none (is_led kind) a (λ m. totals_of_k Labelled (rest_of kind) a b k m) n (λ m l. totals_many (rest_of kind) a b k m (rest_chained kind) z y (omega (arith, l, h))) in
    omega (arith, totals_first kind a b k n s z y, e, f)

-- numbers look at sizes up to their own
of_same : (kind : Kind) (a c : ℕ → ℕ) (k n : ℕ) → IsChained kind → a 0 ≡ 0 → c 0 ≡ 0 → ((m : ℕ) → m ≤ n → a m ≡ c m) → of_k Labelled kind a k n ≡ of_k Labelled kind c k n
of_same Sequence a c zero n s z y h = refl
of_same Set a c zero n s z y h = none n
  where
    none : (n : ℕ) → sets a 0 n ≡ sets c 0 n
    none zero = refl
    none (suc n) = refl
of_same Cycle a c zero n s z y h = refl
of_same Multiset a c zero n s z y h = absurd s
of_same Powerset a c zero n s z y h = absurd s
of_same kind a c (suc k) n s z y h =
    of_first kind a k n s z
    ∙ joined_same (is_led kind) a c (λ m. of_k Labelled (rest_of kind) a k m) (λ m. of_k Labelled (rest_of kind) c k m) n h (λ m l. of_same (rest_of kind) a c k m (rest_chained kind) z y (λ i q. h i (omega (arith, l, q))))
    ∙ sym (of_first kind c k n s y)

totals_same : (kind : Kind) (a c b d : ℕ → ℕ) (k n : ℕ) → IsChained kind → a 0 ≡ 0 → c 0 ≡ 0 → b 0 ≡ 0 → d 0 ≡ 0 → ((m : ℕ) → m ≤ n → a m ≡ c m) → ((m : ℕ) → m ≤ n → b m ≡ d m)
    → totals_of_k Labelled kind a b k n ≡ totals_of_k Labelled kind c d k n
totals_same kind a c b d zero n s z y x w h g = totals_none kind a b n s ∙ sym (totals_none kind c d n s)
totals_same kind a c b d (suc k) n s z y x w h g =
    let e = joined_same (is_led kind) b d (λ m. of_k Labelled (rest_of kind) a k m) (λ m. of_k Labelled (rest_of kind) c k m) n g (λ m l. of_same (rest_of kind) a c k m (rest_chained kind) z y (λ i q. h i (omega (arith, l, q)))) in
    let f = joined_same (is_led kind) a c (λ m. totals_of_k Labelled (rest_of kind) a b k m) (λ m. totals_of_k Labelled (rest_of kind) c d k m) n h (λ m l. totals_same (rest_of kind) a c b d k m (rest_chained kind) z y x w (λ i q. h i (omega (arith, l, q))) (λ i q. g i (omega (arith, l, q)))) in
    omega (arith, totals_first kind a b k n s z x, totals_first kind c d k n s y w, e, f)

pub count_same : (kind : Kind) (a c : ℕ → ℕ) (low : ℕ) (high : Option ℕ) (n : ℕ) → IsChained kind → a 0 ≡ 0 → c 0 ≡ 0 → ((m : ℕ) → m ≤ n → a m ≡ c m) → coll_count Labelled kind a low high n ≡ coll_count Labelled kind c low high n
unfolding coll_count
count_same kind a c low high n s z y h = sum_below-same (λ i. of_k Labelled kind a (low + i) n) (λ i. of_k Labelled kind c (low + i) n) (terms low high n) (λ i l. of_same kind a c (low + i) n s z y h)

pub total_same : (kind : Kind) (a c b d : ℕ → ℕ) (low : ℕ) (high : Option ℕ) (n : ℕ) → IsChained kind → a 0 ≡ 0 → c 0 ≡ 0 → b 0 ≡ 0 → d 0 ≡ 0 → ((m : ℕ) → m ≤ n → a m ≡ c m) → ((m : ℕ) → m ≤ n → b m ≡ d m)
    → coll_total Labelled kind a b low high n ≡ coll_total Labelled kind c d low high n
unfolding coll_total
total_same kind a c b d low high n s z y x w h g = sum_below-same (λ i. totals_of_k Labelled kind a b (low + i) n) (λ i. totals_of_k Labelled kind c d (low + i) n) (terms low high n) (λ i l. totals_same kind a c b d (low + i) n s z y x w h g)

-- 1 where so many are allowed, and 0 elsewhere
abbrev pub at_least : ℕ → ℕ → ℕ
at_least zero k = 1
at_least (suc low) zero = 0
at_least (suc low) (suc k) = at_least low k

abbrev pub at_most : Option ℕ → ℕ → ℕ
at_most None k = 1
at_most (Some h) zero = 1
at_most (Some zero) (suc k) = 0
at_most (Some (suc h)) (suc k) = at_most (Some h) k

at_least-yes : (low k : ℕ) → low ≤ k → at_least low k ≡ 1
at_least-yes zero k h = refl
at_least-yes (suc low) zero h = absurd (omega arith)
at_least-yes (suc low) (suc k) h = at_least-yes low k (omega arith)

at_least-no : (low k : ℕ) → k < low → at_least low k ≡ 0
at_least-no zero k h = absurd (omega arith)
at_least-no (suc low) zero h = refl
at_least-no (suc low) (suc k) h = at_least-no low k (omega arith)

at_most-yes : (h k : ℕ) → k ≤ h → at_most (Some h) k ≡ 1
at_most-yes h zero l = refl
at_most-yes zero (suc k) l = absurd (omega arith)
at_most-yes (suc h) (suc k) l = at_most-yes h k (omega arith)

at_most-no : (h k : ℕ) → h < k → at_most (Some h) k ≡ 0
at_most-no h zero l = absurd (omega arith)
at_most-no zero (suc k) l = refl
at_most-no (suc h) (suc k) l = at_most-no h k (omega arith)

abbrev pub allowed : ℕ → Option ℕ → ℕ → ℕ
allowed low high k = at_least low k * at_most high k

-- the numbers of components within the bounds are those below T that are allowed, where T is past the size
module _ (W : ℕ → ℕ) (n : ℕ) (many : (k : ℕ) → n < k → W k ≡ 0) where
  one_of : (x y : ℕ) → x ≡ 1 → y ≡ 1 → (w : ℕ) → (x * y) * w ≡ w
  one_of x y e f w = ap (λ i. (i * y) * w) e ∙ ap (λ i. (1 * i) * w) f ∙ let q : 1 * 1 * w ≡ w = omega arith in q

  left_zero : (x y : ℕ) → x ≡ 0 → (w : ℕ) → (x * y) * w ≡ 0
  left_zero x y e w = ap (λ i. (i * y) * w) e ∙ ap (λ i. i * w) (zero-mul y) ∙ zero-mul w

  right_zero : (x y : ℕ) → y ≡ 0 → (w : ℕ) → (x * y) * w ≡ 0
  right_zero x y e w = ap (λ i. (x * i) * w) e ∙ ap (λ i. i * w) (mul-zero x) ∙ zero-mul w

  beyond : (x w : ℕ) → w ≡ 0 → x * w ≡ 0
  beyond x w e = ap (λ i. x * i) e ∙ mul-zero x

  allowed_in : (low : ℕ) (high : Option ℕ) (i : ℕ) → i < terms low high n → allowed low high (low + i) * W (low + i) ≡ W (low + i)
  allowed_in low (Some h) i l = one_of (at_least low (low + i)) (at_most (Some h) (low + i)) (at_least-yes low (low + i) (omega arith)) (at_most-yes h (low + i) (omega (arith, l))) (W (low + i))
  allowed_in low None i l = one_of (at_least low (low + i)) 1 (at_least-yes low (low + i) (omega arith)) refl (W (low + i))

  allowed_out : (low : ℕ) (high : Option ℕ) (k : ℕ) → low + terms low high n ≤ k → low ≤ k → allowed low high k * W k ≡ 0
  allowed_out low (Some h) k l m = ⊎_elim
      (λ q. beyond (allowed low (Some h) k) (W k) (many k q))
      (λ q. right_zero (at_least low k) (at_most (Some h) k) (at_most-no h k (omega (arith, l, q))) (W k))
      (above n k)
    where
      above : (n k : ℕ) → (n < k) ⊎ (k ≤ n)
      above n k = grind arith
  allowed_out low None k l m = beyond (allowed low None k) (W k) (many k (omega (arith, l)))

  allowed_below : (low : ℕ) (high : Option ℕ) (k : ℕ) → k < low → allowed low high k * W k ≡ 0
  allowed_below low high k h = left_zero (at_least low k) (at_most high k) (at_least-no low k h) (W k)

  no_terms : (low : ℕ) (high : Option ℕ) → n < low → terms low high n ≡ 0
  no_terms low (Some h) l = omega (arith, l)
  no_terms low None l = omega (arith, l)

  few_terms : (low : ℕ) (high : Option ℕ) → low ≤ suc n → low + terms low high n ≤ suc n
  few_terms low (Some h) l = omega (arith, l)
  few_terms low None l = omega (arith, l)

  from_low : (low : ℕ) (high : Option ℕ) (d : ℕ) → terms low high n ≤ d → sum_below (λ i. W (low + i)) (terms low high n) ≡ sum_below (λ k. allowed low high k * W k) (low + d)
  from_low low high d h =
      let f : ℕ → ℕ = λ k. allowed low high k * W k in
      let t : ℕ = terms low high n in
      let e : sum_below f (low + d) ≡ sum_below f low + sum_below (λ i. f (low + i)) d = sum_below-append f low d in
      let z : sum_below f low ≡ 0 = sum_below-zero f low (λ k l. allowed_below low high k l) in
      let g : sum_below (λ i. f (low + i)) (t + (d - t)) ≡ sum_below (λ i. f (low + i)) t + sum_below (λ i. f (low + (t + i))) (d - t) = sum_below-append (λ i. f (low + i)) t (d - t) in
      let q : t + (d - t) ≡ d = omega (arith, h) in
      let x : sum_below (λ i. f (low + i)) t ≡ sum_below (λ i. W (low + i)) t = sum_below-same (λ i. f (low + i)) (λ i. W (low + i)) t (λ i l. allowed_in low high i l) in
      let y : sum_below (λ i. f (low + (t + i))) (d - t) ≡ 0 = sum_below-zero (λ i. f (low + (t + i))) (d - t) (λ i l. allowed_out low high (low + (t + i)) (omega arith) (omega arith)) in
      omega (arith, e, z, g, ap (sum_below (λ i. f (low + i))) q, x, y)

  pub bounded_all : (low : ℕ) (high : Option ℕ) (T : ℕ) → suc n ≤ T → sum_below (λ i. W (low + i)) (terms low high n) ≡ sum_below (λ k. allowed low high k * W k) T
  bounded_all low high T h = ⊎_elim
      (λ l. from_low low high (T - low) (omega (arith, h, l, few low high l h)) ∙ ap (sum_below (λ k. allowed low high k * W k)) (let q : low + (T - low) ≡ T = omega (arith, l) in q))
      (λ l. ap (sum_below (λ i. W (low + i))) (no_terms low high (omega (arith, h, l))) ∙ sym (sum_below-zero (λ k. allowed low high k * W k) T (λ k m. allowed_below low high k (omega (arith, m, l)))))
      (le_or low T)
    where
      le_or : (x y : ℕ) → (x ≤ y) ⊎ (y < x)
      le_or x y = grind arith

      few : (low : ℕ) (high : Option ℕ) → low ≤ T → suc n ≤ T → terms low high n ≤ T - low
      few low (Some h) l m = omega (arith, l, m)
      few low None l m = omega (arith, l, m)
