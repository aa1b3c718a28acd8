-- The numbers below n, and sums over them.
use Rattle.std.proofs.Common.{◌≡◌, ℕ, zero, suc, ◌+◌, ◌*◌, ◌-◌, ◌≤◌, ◌<◌, List, [], ◌∷◌, ◌⊎◌, inl, inr, ⊎_elim, length, refl, sym, ◌∙◌, ap, subst, sum_by, arith, get_or}
use Rattle.std.proofs.lemmas.List.Sums.{sum_by-cons}
use Rattle.std.proofs.Math.Nat.{add-mul, mul-add, mul-zero, zero-mul}
use Rattle.luo_finite.specs.Listing.{In, NoDouble, Lists, Counts, Sums}
use Rattle.luo_finite.specs.Range.{below, sum_below}
use Rattle.luo_finite.proofs.Sums.{Sums-at, Sums-iff, Sums-over, Counts-from}

last_or_before : (k n : ℕ) → k < suc n → (k ≡ n) ⊎ (k < n)
last_or_before k n h = grind arith

-- the list of the numbers below n holds exactly these, each once
pub In-below : (n k : ℕ) → k < n → In k (below n)
In-below zero k h = absurd (omega arith)
In-below (suc n) k h = ⊎_elim (λ e. inl e) (λ l. inr (In-below n k l)) (last_or_before k n h)

pub below_In : (n k : ℕ) → In k (below n) → k < n
below_In zero k h = absurd h
below_In (suc n) k (inl e) = omega arith
below_In (suc n) k (inr h) = omega (arith, below_In n k h)

pub NoDouble-below : (n : ℕ) → NoDouble (below n)
NoDouble-below zero = tt
NoDouble-below (suc n) = ((λ i. absurd (omega (arith, below_In n n i))), NoDouble-below n)

pub Lists-below : (n : ℕ) → Lists (λ k. k < n) (below n)
Lists-below n = record { single = NoDouble-below n; sound = λ k i. below_In n k i; complete = λ k h. In-below n k h }

pub length-below : (n : ℕ) → length (below n) ≡ n
length-below zero = refl
length-below (suc n) = omega (arith, length-below n)

-- a sum over that list is the sum over the range
pub sum_by-below : (f : ℕ → ℕ) (n : ℕ) → sum_by f (below n) ≡ sum_below f n
sum_by-below f zero = refl
sum_by-below f (suc n) = sum_by-cons f n (below n) ∙ ap (λ s. f n + s) (sum_by-below f n)

pub Sums-below : (f : ℕ → ℕ) (n : ℕ) → Sums (λ k. k < n) f (sum_below f n)
Sums-below f n = Sums-at (λ k. k < n) f (below n) (sum_below f n) (Lists-below n) (sum_by-below f n)

-- where each element has exactly one key below n, the sum is the sum over the keys
pub Sums-over_below : {A : Type 0} (Q : ℕ → A → Type 0) (w : A → ℕ) (t : ℕ → ℕ) (n : ℕ) → ((i j : ℕ) (x : A) → Q i x → Q j x → i ≡ j) → ((i : ℕ) → i < n → Sums (Q i) w (t i)) → Sums (λ x. (i : ℕ) × In i (below n) × Q i x) w (sum_below t n)
Sums-over_below Q w t n one s =
    subst (Sums (λ x. (i : ℕ) × In i (below n) × Q i x) w) (sum_by-below t n)
    (Sums-over Q w t (below n) (NoDouble-below n) one (λ i h. s i (below_In n i h)))

-- the same, where the key of each is given by a function
pub Sums-by_key : {A : Type 0} (P : A → Type 0) (key : A → ℕ) (w : A → ℕ) (t : ℕ → ℕ) (n : ℕ) → ((x : A) → P x → key x < n) → ((i : ℕ) → i < n → Sums (λ x. P x × (key x ≡ i)) w (t i)) → Sums P w (sum_below t n)
Sums-by_key P key w t n inside each =
    Sums-iff (λ x. (i : ℕ) × In i (below n) × (P x × (key x ≡ i))) P w (sum_below t n) (λ x r. r.2.0) (λ x p. (key x, In-below n (key x) (inside x p), (p, refl)))
    (Sums-over_below (λ i x. P x × (key x ≡ i)) w t n (λ i j x a b. sym a.1 ∙ b.1) each)

-- numbers that are equal below n have equal sums
pub sum_below-same : (f g : ℕ → ℕ) (n : ℕ) → ((k : ℕ) → k < n → f k ≡ g k) → sum_below f n ≡ sum_below g n
sum_below-same f g zero h = refl
sum_below-same f g (suc n) h =
    let e : sum_below f n ≡ sum_below g n = sum_below-same f g n (λ k l. h k (omega arith)) in
    let d : f n ≡ g n = h n (omega arith) in
    omega arith

-- the first number may be taken off in place of the last
pub sum_below-shift : (f : ℕ → ℕ) (n : ℕ) → sum_below f (suc n) ≡ f 0 + sum_below (λ k. f (suc k)) n
sum_below-shift f zero = refl
sum_below-shift f (suc n) =
    let e : sum_below f (suc n) ≡ f 0 + sum_below (λ k. f (suc k)) n = sum_below-shift f n in
    omega arith

-- a range in two parts
pub sum_below-append : (f : ℕ → ℕ) (m n : ℕ) → sum_below f (m + n) ≡ sum_below f m + sum_below (λ k. f (m + k)) n
sum_below-append f m zero = omega (arith, ap (sum_below f) (plus_zero m))
  where
    plus_zero : (m : ℕ) → m + 0 ≡ m
    plus_zero m = omega arith
sum_below-append f m (suc n) = omega (arith, sum_below-append f m n, ap (sum_below f) (plus_suc m n))
  where
    plus_suc : (m n : ℕ) → m + suc n ≡ suc (m + n)
    plus_suc m n = omega arith

-- a sum over a list is the sum over its places
pub sum_below-places : {A : Type 0} (f : A → ℕ) (xs : List A) (d : A) → sum_below (λ i. f (get_or xs i d)) (length xs) ≡ sum_by f xs
sum_below-places f [] d = refl
sum_below-places f (x ∷ xs) d =
    sum_below-shift (λ i. f (get_or (x ∷ xs) i d)) (length xs) ∙ ap (λ s. f x + s) (sum_below-places f xs d) ∙ sym (sum_by-cons f x xs)

-- sums of zeros, of sums and of multiples
pub sum_below-zero : (f : ℕ → ℕ) (n : ℕ) → ((k : ℕ) → k < n → f k ≡ 0) → sum_below f n ≡ 0
sum_below-zero f zero h = refl
sum_below-zero f (suc n) h =
    let e : sum_below f n ≡ 0 = sum_below-zero f n (λ k l. h k (omega arith)) in
    let d : f n ≡ 0 = h n (omega arith) in
    omega arith

pub sum_below-add : (f g : ℕ → ℕ) (n : ℕ) → sum_below (λ k. f k + g k) n ≡ sum_below f n + sum_below g n
sum_below-add f g zero = refl
sum_below-add f g (suc n) = omega (arith, sum_below-add f g n)

pub sum_below-times : (f : ℕ → ℕ) (c n : ℕ) → sum_below (λ k. c * f k) n ≡ c * sum_below f n
sum_below-times f c zero = sym (mul-zero c)
sum_below-times f c (suc n) = omega (arith, sum_below-times f c n, mul-add c (f n) (sum_below f n))

pub sum_below-times_right : (f : ℕ → ℕ) (c n : ℕ) → sum_below (λ k. f k * c) n ≡ sum_below f n * c
sum_below-times_right f c zero = sym (zero-mul c)
sum_below-times_right f c (suc n) = omega (arith, sum_below-times_right f c n, add-mul (f n) (sum_below f n) c)

-- two sums change places
pub sum_below-swap : (f : ℕ → ℕ → ℕ) (m n : ℕ) → sum_below (λ i. sum_below (λ j. f i j) n) m ≡ sum_below (λ j. sum_below (λ i. f i j) m) n
sum_below-swap f zero n = sym (sum_below-zero (λ j. 0) n (λ k h. refl))
sum_below-swap f (suc m) n =
    ap (λ s. sum_below (λ j. f m j) n + s) (sum_below-swap f m n) ∙ sym (sum_below-add (λ j. f m j) (λ j. sum_below (λ i. f i j) m) n)

-- a sum from the last to the first
pub sum_below-reverse : (f : ℕ → ℕ) (n : ℕ) → sum_below (λ k. f (n - suc k)) n ≡ sum_below f n
sum_below-reverse f zero = refl
sum_below-reverse f (suc n) =
    sum_below-shift (λ k. f (suc n - suc k)) n
    ∙ ap (λ s. f (suc n - 1) + s) (sum_below-same (λ k. f (suc n - suc (suc k))) (λ k. f (n - suc k)) n (λ k h. ap f (omega arith)) ∙ sum_below-reverse f n)
    ∙ ap (λ m. f m + sum_below f n) (one_less n)
  where
    one_less : (n : ℕ) → suc n - 1 ≡ n
    one_less n = omega arith

-- the sum so far and the next term are within the whole sum
pub sum_below-within : (f : ℕ → ℕ) (k n : ℕ) → k < n → f k + sum_below f k ≤ sum_below f n
sum_below-within f k zero h = absurd (omega arith)
sum_below-within f k (suc n) h =
    ⊎_elim (λ (e : k ≡ n). subst (λ i. f i + sum_below f i ≤ f n + sum_below f n) (sym e) (omega arith))
    (λ (l : k < n). omega (arith, sum_below-within f k n l)) (last_or_before k n h)

-- each term is within the whole sum
pub sum_below-term : (f : ℕ → ℕ) (k n : ℕ) → k < n → f k ≤ sum_below f n
sum_below-term f k n h = omega (arith, sum_below-within f k n h)

-- terms that are no greater have a sum that is no greater
pub sum_below-le : (f g : ℕ → ℕ) (n : ℕ) → ((k : ℕ) → k < n → f k ≤ g k) → sum_below f n ≤ sum_below g n
sum_below-le f g zero h = omega arith
sum_below-le f g (suc n) h =
    let e : sum_below f n ≤ sum_below g n = sum_below-le f g n (λ k l. h k (omega arith)) in
    let d : f n ≤ g n = h n (omega arith) in
    omega arith

-- a longer sum is no less
pub sum_below-more : (f : ℕ → ℕ) (m n : ℕ) → m ≤ n → sum_below f m ≤ sum_below f n
sum_below-more f m zero h = subst (λ k. sum_below f k ≤ 0) (sym (none_below m h)) (omega arith)
  where
    none_below : (m : ℕ) → m ≤ 0 → m ≡ 0
    none_below m h = omega arith
sum_below-more f m (suc n) h =
    ⊎_elim (λ (e : m ≡ suc n). subst (λ k. sum_below f k ≤ f n + sum_below f n) (sym e) (omega arith))
    (λ (l : m < suc n). omega (arith, sum_below-more f m n (omega arith))) (last_or_before m (suc n) (omega arith))

-- there are n numbers below n
pub Counts-below : (n : ℕ) → Counts (λ k. k < n) n
Counts-below n = Counts-from (λ k. k < n) n (Sums-at (λ k. k < n) (λ k. 1) (below n) n (Lists-below n) (sum_by-below (λ k. 1) n ∙ ones n))
  where
    ones : (n : ℕ) → sum_below (λ k. 1) n ≡ n
    ones zero = refl
    ones (suc n) = omega (arith, ones n)
