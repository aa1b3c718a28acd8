-- Numbers of rows of components, and of charges over them.
use Rattle.std.proofs.Common.{◌≡◌, ℕ, zero, suc, ◌+◌, ◌*◌, ◌-◌, ◌≤◌, ◌<◌, ◌⊎◌, ⊎_elim, Option, Some, None, refl, sym, ◌∙◌, ap, arith}
use Rattle.std.proofs.Math.Nat.{mul-zero, zero-mul}
use Rattle.luo_finite.specs.Range.{sum_below, unit}
use Rattle.luo_finite.proofs.Ranges.{sum_below-same, sum_below-shift, sum_below-zero, sum_below-times, sum_below-swap, sum_below-add}
use Rattle.luo_model.specs.declared.program.Universe.TheVariants.{Unlabelled}
use Rattle.luo_model.specs.declared.program.Kind.TheVariants.{Sequence}
use Rattle.luo_model.specs.Member.{IsWithin}
use Rattle.luo_counting.specs.Sharing.{over_shares, shares}
use Rattle.luo_counting.proofs.Two.{over_shares-same}
use Rattle.luo_counting.specs.Numbers.{rows, row_totals, coll_count, coll_total, terms}

-- rows of one component more as a sum
rows_sum : (a : ℕ → ℕ) (k n : ℕ) → rows Unlabelled a (suc k) n ≡ sum_below (λ j. a j * rows Unlabelled a k (n - j)) (suc n)
unfolding over_shares
rows_sum a k n = refl

row_totals_sum : (a b : ℕ → ℕ) (k n : ℕ) → row_totals Unlabelled a b (suc k) n ≡ sum_below (λ j. b j * rows Unlabelled a k (n - j)) (suc n) + sum_below (λ j. a j * row_totals Unlabelled a b k (n - j)) (suc n)
unfolding over_shares
row_totals_sum a b k n = refl

-- a share is 0 where the first number is, and all that it is multiplied with below the size
share_zero : (f r : ℕ → ℕ) (n : ℕ) → f 0 ≡ 0 → ((j : ℕ) → 1 ≤ j → j ≤ n → r (n - j) ≡ 0) → sum_below (λ j. f j * r (n - j)) (suc n) ≡ 0
share_zero f r n z h = sum_below-zero (λ j. f j * r (n - j)) (suc n) each
  where
    each : (j : ℕ) → j < suc n → f j * r (n - j) ≡ 0
    each zero l = ap (λ m. m * r (n - 0)) z ∙ zero-mul (r (n - 0))
    each (suc j) l = ap (λ m. f (suc j) * m) (h (suc j) (omega arith) (omega arith)) ∙ mul-zero (f (suc j))

-- a row has no more components than its size
rows-past : (a : ℕ → ℕ) (k n : ℕ) → a 0 ≡ 0 → n < k → rows Unlabelled a k n ≡ 0
rows-past a zero n z h = absurd (omega arith)
rows-past a (suc k) n z h = rows_sum a k n ∙ share_zero a (rows Unlabelled a k) n z (λ j l i. rows-past a k (n - j) z (omega (arith, l, i)))

row_totals-past : (a b : ℕ → ℕ) (k n : ℕ) → a 0 ≡ 0 → b 0 ≡ 0 → n < k → row_totals Unlabelled a b k n ≡ 0
row_totals-past a b zero n z y h = absurd (omega arith)
row_totals-past a b (suc k) n z y h =
    let e = share_zero b (rows Unlabelled a k) n y (λ j l i. rows-past a k (n - j) z (omega (arith, l, i))) in
    let f = share_zero a (row_totals Unlabelled a b k) n z (λ j l i. row_totals-past a b k (n - j) z y (omega (arith, l, i))) in
    omega (arith, row_totals_sum a b k n, e, f)

below_or : (m n : ℕ) → m < suc n → (m < n) ⊎ (m ≡ n)
below_or m n h = grind arith

-- terms past the last one that counts
pub sum_below-tail : (f : ℕ → ℕ) (m n : ℕ) → m ≤ n → ((k : ℕ) → m ≤ k → k < n → f k ≡ 0) → sum_below f m ≡ sum_below f n
sum_below-tail f m zero h z = ap (sum_below f) (let q : m ≡ 0 = omega arith in q)
sum_below-tail f m (suc n) h z = ⊎_elim
    (λ l.
    let e : sum_below f m ≡ sum_below f n = sum_below-tail f m n (omega (arith, l)) (λ k i b. z k i (omega (arith, b))) in
    let d : f n ≡ 0 = z n (omega (arith, l)) (omega arith) in
    omega (arith, e, d))
    (λ e. ap (sum_below f) (let q : m ≡ suc n = omega (arith, e) in q))
    (below_or m (suc n) (omega arith))

-- as many rows as serve for every size up to M
pub full : ℕ → Option ℕ → ℕ → ℕ
full lo (Some h) M = suc h - lo
full lo None M = suc M - lo

terms_within : (lo : ℕ) (hi : Option ℕ) (n M : ℕ) → n ≤ M → terms lo hi n ≤ full lo hi M
unfolding full
terms_within lo (Some h) n M l = omega arith
terms_within lo None n M l = omega arith

terms_past : (lo : ℕ) (hi : Option ℕ) (n M i : ℕ) → terms lo hi n ≤ i → i < full lo hi M → n < lo + i
unfolding full
terms_past lo (Some h) n M i t f = omega arith
terms_past lo None n M i t f = omega arith

pub span : (ℕ → ℕ → ℕ) → ℕ → ℕ → ℕ → ℕ
span r lo N n = sum_below (λ i. r (lo + i) n) N

count_span : (a : ℕ → ℕ) (lo : ℕ) (hi : Option ℕ) (n M : ℕ) → a 0 ≡ 0 → n ≤ M → coll_count Unlabelled Sequence a lo hi n ≡ span (rows Unlabelled a) lo (full lo hi M) n
unfolding coll_count span
count_span a lo hi n M z l = sum_below-tail (λ i. rows Unlabelled a (lo + i) n) (terms lo hi n) (full lo hi M) (terms_within lo hi n M l) (λ k t f. rows-past a (lo + k) n z (terms_past lo hi n M k t f))

total_span : (a b : ℕ → ℕ) (lo : ℕ) (hi : Option ℕ) (n M : ℕ) → a 0 ≡ 0 → b 0 ≡ 0 → n ≤ M → coll_total Unlabelled Sequence a b lo hi n ≡ span (row_totals Unlabelled a b) lo (full lo hi M) n
unfolding coll_total span
total_span a b lo hi n M z y l = sum_below-tail (λ i. row_totals Unlabelled a b (lo + i) n) (terms lo hi n) (full lo hi M) (terms_within lo hi n M l) (λ k t f. row_totals-past a b (lo + k) n z y (terms_past lo hi n M k t f))

-- a sum of shares is a share of sums
shared_out : (a : ℕ → ℕ) (r : ℕ → ℕ → ℕ) (lo N n : ℕ) → sum_below (λ i. sum_below (λ j. a j * r (lo + i) (n - j)) (suc n)) N ≡ sum_below (λ j. a j * span r lo N (n - j)) (suc n)
unfolding span
shared_out a r lo N n =
    sum_below-swap (λ i j. a j * r (lo + i) (n - j)) N (suc n)
    ∙ sum_below-same (λ j. sum_below (λ i. a j * r (lo + i) (n - j)) N) (λ j. a j * sum_below (λ i. r (lo + i) (n - j)) N) (suc n) (λ j l. sum_below-times (λ i. r (lo + i) (n - j)) (a j) N)

span-next : (a : ℕ → ℕ) (lo N n : ℕ) → span (rows Unlabelled a) (suc lo) N n ≡ sum_below (λ j. a j * span (rows Unlabelled a) lo N (n - j)) (suc n)
unfolding span
span-next a lo N n =
    sum_below-same (λ i. rows Unlabelled a (suc lo + i) n) (λ i. sum_below (λ j. a j * rows Unlabelled a (lo + i) (n - j)) (suc n)) N
    (λ i l. ap (λ k. rows Unlabelled a k n) (let q : suc lo + i ≡ suc (lo + i) = omega arith in q) ∙ rows_sum a (lo + i) n)
    ∙ shared_out a (rows Unlabelled a) lo N n

span_totals-next : (a b : ℕ → ℕ) (lo N n : ℕ) → span (row_totals Unlabelled a b) (suc lo) N n
    ≡ sum_below (λ j. b j * span (rows Unlabelled a) lo N (n - j)) (suc n) + sum_below (λ j. a j * span (row_totals Unlabelled a b) lo N (n - j)) (suc n)
unfolding span
span_totals-next a b lo N n =
    let f : ℕ → ℕ = λ i. sum_below (λ j. b j * rows Unlabelled a (lo + i) (n - j)) (suc n) in
    let g : ℕ → ℕ = λ i. sum_below (λ j. a j * row_totals Unlabelled a b (lo + i) (n - j)) (suc n) in
    let e : sum_below (λ i. row_totals Unlabelled a b (suc lo + i) n) N ≡ sum_below (λ i. f i + g i) N = sum_below-same (λ i. row_totals Unlabelled a b (suc lo + i) n) (λ i. f i + g i) N
    (λ i l. ap (λ k. row_totals Unlabelled a b k n) (let q : suc lo + i ≡ suc (lo + i) = omega arith in q) ∙ row_totals_sum a b (lo + i) n) in
    e ∙ sum_below-add f g N ∙ ap (λ m. m + sum_below g N) (shared_out b (rows Unlabelled a) lo N n) ∙ ap (λ m. sum_below (λ j. b j * span (rows Unlabelled a) lo N (n - j)) (suc n) + m) (shared_out a (row_totals Unlabelled a b) lo N n)

span-first : (r : ℕ → ℕ → ℕ) (N n : ℕ) → span r 0 (suc N) n ≡ r 0 n + span r 1 N n
unfolding span
span-first r N n = sum_below-shift (λ i. r (0 + i) n) N
    ∙ ap (λ m. r 0 n + m) (sum_below-same (λ i. r (0 + suc i) n) (λ i. r (1 + i) n) N (λ i l. ap (λ k. r k n) (let q : 0 + suc i ≡ 1 + i = omega arith in q)))

-- one component more
abbrev pub more : Option ℕ → Option ℕ
more (Some h) = Some (suc h)
more None = None

full-more : (lo : ℕ) (hi : Option ℕ) (M : ℕ) → full (suc lo) (more hi) (suc M) ≡ full lo hi M
unfolding full
full-more lo (Some h) M = omega arith
full-more lo None M = omega arith

full-free : (hi : Option ℕ) (M : ℕ) → full 0 (more hi) (suc M) ≡ suc (full 0 hi M)
unfolding full
full-free (Some h) M = omega arith
full-free None M = omega arith

-- sequences of one component more at least, and at most
pub count-next : (a : ℕ → ℕ) (lo : ℕ) (hi : Option ℕ) (n : ℕ) → a 0 ≡ 0 → coll_count Unlabelled Sequence a (suc lo) (more hi) n ≡ sum_below (λ j. a j * coll_count Unlabelled Sequence a lo hi (n - j)) (suc n)
count-next a lo hi n z =
    count_span a (suc lo) (more hi) n (suc n) z (omega arith) ∙ ap (λ N. span (rows Unlabelled a) (suc lo) N n) (full-more lo hi n) ∙ span-next a lo (full lo hi n) n
    ∙ sum_below-same (λ j. a j * span (rows Unlabelled a) lo (full lo hi n) (n - j)) (λ j. a j * coll_count Unlabelled Sequence a lo hi (n - j)) (suc n) (λ j l. ap (λ m. a j * m) (sym (count_span a lo hi (n - j) n z (omega arith))))

-- and where the empty one is among them
pub count-free : (a : ℕ → ℕ) (hi : Option ℕ) (n : ℕ) → a 0 ≡ 0 → coll_count Unlabelled Sequence a 0 (more hi) n ≡ unit n + sum_below (λ j. a j * coll_count Unlabelled Sequence a 0 hi (n - j)) (suc n)
count-free a hi n z =
    count_span a 0 (more hi) n (suc n) z (omega arith) ∙ ap (λ N. span (rows Unlabelled a) 0 N n) (full-free hi n) ∙ span-first (rows Unlabelled a) (full 0 hi n) n
    ∙ ap (λ m. unit n + m) (span-next a 0 (full 0 hi n) n
    ∙ sum_below-same (λ j. a j * span (rows Unlabelled a) 0 (full 0 hi n) (n - j)) (λ j. a j * coll_count Unlabelled Sequence a 0 hi (n - j)) (suc n) (λ j l. ap (λ m. a j * m) (sym (count_span a 0 hi (n - j) n z (omega arith)))))

-- none but the empty one
pub count-none : (a : ℕ → ℕ) (n : ℕ) → a 0 ≡ 0 → coll_count Unlabelled Sequence a 0 (Some 0) n ≡ unit n
unfolding span full
count-none a n z = count_span a 0 (Some 0) n n z (omega arith) ∙ (let q : unit n + 0 ≡ unit n = omega arith in q)

-- the charges over them
totals_at : (a b : ℕ → ℕ) (lo : ℕ) (hi : Option ℕ) (n : ℕ) → a 0 ≡ 0 → b 0 ≡ 0 → span (row_totals Unlabelled a b) (suc lo) (full lo hi n) n
    ≡ sum_below (λ j. b j * coll_count Unlabelled Sequence a lo hi (n - j)) (suc n) + sum_below (λ j. a j * coll_total Unlabelled Sequence a b lo hi (n - j)) (suc n)
totals_at a b lo hi n z y =
    let e = span_totals-next a b lo (full lo hi n) n in
    let f = sum_below-same (λ j. b j * span (rows Unlabelled a) lo (full lo hi n) (n - j)) (λ j. b j * coll_count Unlabelled Sequence a lo hi (n - j)) (suc n) (λ j l. ap (λ m. b j * m) (sym (count_span a lo hi (n - j) n z (omega arith)))) in
    let g = sum_below-same (λ j. a j * span (row_totals Unlabelled a b) lo (full lo hi n) (n - j)) (λ j. a j * coll_total Unlabelled Sequence a b lo hi (n - j)) (suc n) (λ j l. ap (λ m. a j * m) (sym (total_span a b lo hi (n - j) n z y (omega arith)))) in
    omega (arith, e, f, g)

pub total-next : (a b : ℕ → ℕ) (lo : ℕ) (hi : Option ℕ) (n : ℕ) → a 0 ≡ 0 → b 0 ≡ 0 → coll_total Unlabelled Sequence a b (suc lo) (more hi) n
    ≡ sum_below (λ j. b j * coll_count Unlabelled Sequence a lo hi (n - j)) (suc n) + sum_below (λ j. a j * coll_total Unlabelled Sequence a b lo hi (n - j)) (suc n)
total-next a b lo hi n z y =
    total_span a b (suc lo) (more hi) n (suc n) z y (omega arith) ∙ ap (λ N. span (row_totals Unlabelled a b) (suc lo) N n) (full-more lo hi n) ∙ totals_at a b lo hi n z y

pub total-free : (a b : ℕ → ℕ) (hi : Option ℕ) (n : ℕ) → a 0 ≡ 0 → b 0 ≡ 0 → coll_total Unlabelled Sequence a b 0 (more hi) n
    ≡ sum_below (λ j. b j * coll_count Unlabelled Sequence a 0 hi (n - j)) (suc n) + sum_below (λ j. a j * coll_total Unlabelled Sequence a b 0 hi (n - j)) (suc n)
total-free a b hi n z y =
    total_span a b 0 (more hi) n (suc n) z y (omega arith) ∙ ap (λ N. span (row_totals Unlabelled a b) 0 N n) (full-free hi n) ∙ span-first (row_totals Unlabelled a b) (full 0 hi n) n
    ∙ (let e = totals_at a b 0 hi n z y in omega (arith, e))

pub total-none : (a b : ℕ → ℕ) (n : ℕ) → a 0 ≡ 0 → b 0 ≡ 0 → coll_total Unlabelled Sequence a b 0 (Some 0) n ≡ 0
unfolding span full
total-none a b n z y = total_span a b 0 (Some 0) n n z y (omega arith)

-- rows look at sizes up to their own alone
rows_same : (a c : ℕ → ℕ) (k n : ℕ) → ((i : ℕ) → i ≤ n → a i ≡ c i) → rows Unlabelled a k n ≡ rows Unlabelled c k n
rows_same a c zero n h = refl
rows_same a c (suc k) n h = over_shares-same Unlabelled (λ i j. a i * rows Unlabelled a k j) (λ i j. c i * rows Unlabelled c k j) n (λ i j e.
    ap (λ m. m * rows Unlabelled a k j) (h i (omega (arith, e))) ∙ ap (λ m. c i * m) (rows_same a c k j (λ m l. h m (omega (arith, e, l)))))

row_totals_same : (a b c d : ℕ → ℕ) (k n : ℕ) → ((i : ℕ) → i ≤ n → a i ≡ c i) → ((i : ℕ) → i ≤ n → b i ≡ d i) → row_totals Unlabelled a b k n ≡ row_totals Unlabelled c d k n
row_totals_same a b c d zero n h g = refl
row_totals_same a b c d (suc k) n h g =
    let e : shares Unlabelled b (rows Unlabelled a k) n ≡ shares Unlabelled d (rows Unlabelled c k) n = over_shares-same Unlabelled (λ i j. b i * rows Unlabelled a k j) (λ i j. d i * rows Unlabelled c k j) n (λ i j e.
    ap (λ m. m * rows Unlabelled a k j) (g i (omega (arith, e))) ∙ ap (λ m. d i * m) (rows_same a c k j (λ m l. h m (omega (arith, e, l))))) in
    let f : shares Unlabelled a (row_totals Unlabelled a b k) n ≡ shares Unlabelled c (row_totals Unlabelled c d k) n = over_shares-same Unlabelled (λ i j. a i * row_totals Unlabelled a b k j) (λ i j. c i * row_totals Unlabelled c d k j) n (λ i j e.
    ap (λ m. m * row_totals Unlabelled a b k j) (h i (omega (arith, e))) ∙ ap (λ m. c i * m) (row_totals_same a b c d k j (λ m l. h m (omega (arith, e, l))) (λ m l. g m (omega (arith, e, l))))) in
    omega (arith, e, f)

row_totals-zero : (a b : ℕ → ℕ) (k : ℕ) → a 0 ≡ 0 → b 0 ≡ 0 → row_totals Unlabelled a b k 0 ≡ 0
row_totals-zero a b zero z y = refl
row_totals-zero a b (suc k) z y = row_totals-past a b (suc k) 0 z y (omega arith)

-- charges over rows look at smaller sizes, and at their own where the row is one component
row_totals-needed : (a b c d : ℕ → ℕ) (k n : ℕ) → a 0 ≡ 0 → b 0 ≡ 0 → c 0 ≡ 0 → d 0 ≡ 0 → ((i : ℕ) → i < n → a i ≡ c i) → ((i : ℕ) → i < n → b i ≡ d i) → (k ≡ 1 → b n ≡ d n) → row_totals Unlabelled a b k n ≡ row_totals Unlabelled c d k n
row_totals-needed a b c d zero n az bz cz dz h g o = refl
row_totals-needed a b c d (suc k) n az bz cz dz h g o =
    let e : shares Unlabelled b (rows Unlabelled a k) n ≡ shares Unlabelled d (rows Unlabelled c k) n = over_shares-same Unlabelled (λ i j. b i * rows Unlabelled a k j) (λ i j. d i * rows Unlabelled c k j) n (first k o) in
    let f : shares Unlabelled a (row_totals Unlabelled a b k) n ≡ shares Unlabelled c (row_totals Unlabelled c d k) n = over_shares-same Unlabelled (λ i j. a i * row_totals Unlabelled a b k j) (λ i j. c i * row_totals Unlabelled c d k j) n rest in
    omega (arith, e, f)
  where
    zero_times : (x y r t : ℕ) → x ≡ 0 → y ≡ 0 → x * r ≡ y * t
    zero_times x y r t e f = ap (λ m. m * r) e ∙ zero-mul r ∙ sym (ap (λ m. m * t) f ∙ zero-mul t)

    times_zero : (x y r t : ℕ) → r ≡ 0 → t ≡ 0 → x * r ≡ y * t
    times_zero x y r t e f = ap (λ m. x * m) e ∙ mul-zero x ∙ sym (ap (λ m. y * m) f ∙ mul-zero y)

    first : (k : ℕ) → (suc k ≡ 1 → b n ≡ d n) → (i j : ℕ) → i + j ≡ n → b i * rows Unlabelled a k j ≡ d i * rows Unlabelled c k j
    first k o zero j e = zero_times (b 0) (d 0) (rows Unlabelled a k j) (rows Unlabelled c k j) bz dz
    first zero o (suc i) zero e = ap (λ x. b x * 1) (let q : suc i ≡ n = omega (arith, e) in q) ∙ ap (λ x. x * 1) (o refl) ∙ ap (λ x. d x * 1) (let q : n ≡ suc i = omega (arith, e) in q)
    first (suc k) o (suc i) zero e = times_zero (b (suc i)) (d (suc i)) (rows Unlabelled a (suc k) 0) (rows Unlabelled c (suc k) 0) (rows-past a (suc k) 0 az (omega arith)) (rows-past c (suc k) 0 cz (omega arith))
    first k o (suc i) (suc j) e =
        ap (λ m. m * rows Unlabelled a k (suc j)) (g (suc i) (omega (arith, e))) ∙ ap (λ m. d (suc i) * m) (rows_same a c k (suc j) (λ m l. h m (omega (arith, e, l))))

    rest : (i j : ℕ) → i + j ≡ n → a i * row_totals Unlabelled a b k j ≡ c i * row_totals Unlabelled c d k j
    rest zero j e = zero_times (a 0) (c 0) (row_totals Unlabelled a b k j) (row_totals Unlabelled c d k j) az cz
    rest (suc i) zero e = times_zero (a (suc i)) (c (suc i)) (row_totals Unlabelled a b k 0) (row_totals Unlabelled c d k 0) (row_totals-zero a b k az bz) (row_totals-zero c d k cz dz)
    rest (suc i) (suc j) e =
        ap (λ m. m * row_totals Unlabelled a b k (suc j)) (h (suc i) (omega (arith, e)))
        ∙ ap (λ m. c (suc i) * m) (row_totals_same a b c d k (suc j) (λ m l. h m (omega (arith, e, l))) (λ m l. g m (omega (arith, e, l))))

one_within : (lo : ℕ) (hi : Option ℕ) (n i : ℕ) → i < terms lo hi n → lo + i ≡ 1 → IsWithin lo hi 1
one_within lo (Some h) n i l e = (omega (arith, e), omega (arith, l, e))
one_within lo None n i l e = omega (arith, e)

-- so do charges over sequences
pub coll_total-needed : (a b c d : ℕ → ℕ) (lo : ℕ) (hi : Option ℕ) (n : ℕ) → a 0 ≡ 0 → b 0 ≡ 0 → c 0 ≡ 0 → d 0 ≡ 0 → ((i : ℕ) → i < n → a i ≡ c i) → ((i : ℕ) → i < n → b i ≡ d i) → (IsWithin lo hi 1 → b n ≡ d n)
    → coll_total Unlabelled Sequence a b lo hi n ≡ coll_total Unlabelled Sequence c d lo hi n
unfolding coll_total
coll_total-needed a b c d lo hi n az bz cz dz h g o =
    sum_below-same (λ i. row_totals Unlabelled a b (lo + i) n) (λ i. row_totals Unlabelled c d (lo + i) n) (terms lo hi n) (λ i l. row_totals-needed a b c d (lo + i) n az bz cz dz h g (λ e. o (one_within lo hi n i l e)))
