-- Numbers of multisets and powersets, and charges over them, by rows by size alone.
use Rattle.std.proofs.Common.{◌≡◌, ℕ, zero, suc, ◌+◌, ◌*◌, ◌-◌, ◌≤◌, ◌<◌, None, refl, ◌∙◌, ap, arith}
use Rattle.std.proofs.Math.Nat.{mul-zero, zero-mul}
use Rattle.luo_finite.specs.Range.{sum_below, unit}
use Rattle.luo_finite.proofs.Ranges.{sum_below-same, sum_below-add, sum_below-append, sum_below-zero, sum_below-shift}
use Rattle.luo_model.specs.declared.program.Universe.TheVariants.{Unlabelled}
use Rattle.luo_model.specs.declared.program.Kind.{Kind}
use Rattle.luo_model.specs.declared.program.Kind.TheVariants.{Sequence, Set, Cycle, Multiset, Powerset}
use Rattle.luo_finite.specs.Binomial.{choose}
use Rattle.luo_counting.specs.Numbers.{back, repeats, chosen, chosen_totals, plane, plane_totals, coll_count, coll_total}
use Rattle.luo_counting.proofs.PlaneTops.{plane-top}
use Rattle.luo_unlabelled.specs.Calls.{IsOfParts}
use Rattle.luo_unlabelled.specs.inner.Planes.{alone}
use Rattle.luo_unlabelled.specs.inner.Sizes.{stepped, sized, sized_totals, count_any}
use Rattle.luo_unlabelled.proofs.PlaneLemmas.{back_there}
use Rattle.luo_unlabelled.proofs.PartNumbers.{chosen-none, of_kind, alone_none}
use Rattle.luo_unlabelled.proofs.PartTotals.{charged-none, charged-one, total-top, totals_of_kind}
use Rattle.luo_unlabelled.proofs.SizeSteps.{stepped-same, stepped-beyond, stepped-top, stepped-planes}

-- rows look at numbers up to their sizes alone
pub sized-same : (kind : Kind) (a c : ℕ → ℕ) (d n : ℕ) → ((i : ℕ) → i ≤ d → a i ≡ c i) → sized kind a d n ≡ sized kind c d n
sized-same kind a c zero n h = refl
sized-same kind a c (suc d) n h = stepped-same (chosen kind (a (suc d))) (chosen kind (c (suc d))) (sized kind a d) (sized kind c d) (suc d) n (λ j. ap (λ x. chosen kind x j) (h (suc d) (omega arith))) (λ x l. sized-same kind a c d x (λ i b. h i (omega (arith, b))))

pub totals-same : (kind : Kind) (a b c e : ℕ → ℕ) (d n : ℕ) → ((i : ℕ) → i ≤ d → a i ≡ c i) → ((i : ℕ) → i ≤ d → b i ≡ e i) → sized_totals kind a b d n ≡ sized_totals kind c e d n
totals-same kind a b c e zero n h g = refl
totals-same kind a b c e (suc d) n h g =
    let l : (i : ℕ) → i ≤ d → a i ≡ c i = λ i b. h i (omega (arith, b)) in
    let r : (i : ℕ) → i ≤ d → b i ≡ e i = λ i b. g i (omega (arith, b)) in
    let u : stepped (chosen_totals kind (a (suc d)) (b (suc d))) (sized kind a d) (suc d) n ≡ stepped (chosen_totals kind (c (suc d)) (e (suc d))) (sized kind c d) (suc d) n =
    stepped-same (chosen_totals kind (a (suc d)) (b (suc d))) (chosen_totals kind (c (suc d)) (e (suc d))) (sized kind a d) (sized kind c d) (suc d) n (λ j. ap (λ x. chosen_totals kind x (b (suc d)) j) (h (suc d) (omega arith)) ∙ ap (λ x. chosen_totals kind (c (suc d)) x j) (g (suc d) (omega arith))) (λ x _. sized-same kind a c d x l) in
    let v : stepped (chosen kind (a (suc d))) (sized_totals kind a b d) (suc d) n ≡ stepped (chosen kind (c (suc d))) (sized_totals kind c e d) (suc d) n =
    stepped-same (chosen kind (a (suc d))) (chosen kind (c (suc d))) (sized_totals kind a b d) (sized_totals kind c e d) (suc d) n (λ j. ap (λ x. chosen kind x j) (h (suc d) (omega arith))) (λ x _. totals-same kind a b c e d x l r) in
    omega (arith, u, v)

-- one of some things is chosen in as many ways
repeats-one : (a : ℕ) → repeats a 1 ≡ a
repeats-one zero = refl
repeats-one (suc a) = omega (arith, repeats-one a)

choose-one : (a : ℕ) → choose a 1 ≡ a
choose-one zero = refl
choose-one (suc a) = omega (arith, choose-one a)

chosen-one : (kind : Kind) (a : ℕ) → chosen kind a 1 ≡ a
chosen-one Powerset a = choose-one a
chosen-one Sequence a = repeats-one a
chosen-one Set a = repeats-one a
chosen-one Cycle a = repeats-one a
chosen-one Multiset a = repeats-one a

one_of : (w x : ℕ) → w ≡ 1 → w * x ≡ x
one_of w x e = ap (λ i. i * x) e ∙ (let q : 1 * x ≡ x = omega arith in q)

none_of : (w x : ℕ) → w ≡ 0 → w * x ≡ 0
none_of w x e = ap (λ i. i * x) e ∙ zero-mul x

-- a size above the one at hand adds nothing
pub sized-beyond : (kind : Kind) (a : ℕ → ℕ) (d n : ℕ) → n < suc d → sized kind a (suc d) n ≡ sized kind a d n
sized-beyond kind a d n h = stepped-beyond (chosen kind (a (suc d))) (sized kind a d) d n h ∙ one_of (chosen kind (a (suc d)) 0) (sized kind a d n) (chosen-none kind (a (suc d)))

pub totals-beyond : (kind : Kind) (a b : ℕ → ℕ) (d n : ℕ) → n < suc d → sized_totals kind a b (suc d) n ≡ sized_totals kind a b d n
totals-beyond kind a b d n h =
    let u = stepped-beyond (chosen_totals kind (a (suc d)) (b (suc d))) (sized kind a d) d n h in
    let v = stepped-beyond (chosen kind (a (suc d))) (sized_totals kind a b d) d n h in
    omega (arith, u, v, none_of (chosen_totals kind (a (suc d)) (b (suc d)) 0) (sized kind a d n) (charged-none kind (a (suc d)) (b (suc d))), one_of (chosen kind (a (suc d)) 0) (sized_totals kind a b d n) (chosen-none kind (a (suc d))))

sized-zero : (kind : Kind) (a : ℕ → ℕ) (d : ℕ) → sized kind a d 0 ≡ 1
sized-zero kind a zero = refl
sized-zero kind a (suc d) = sized-beyond kind a d 0 (omega arith) ∙ sized-zero kind a d

pub totals-zero : (kind : Kind) (a b : ℕ → ℕ) (d : ℕ) → sized_totals kind a b d 0 ≡ 0
totals-zero kind a b zero = refl
totals-zero kind a b (suc d) = totals-beyond kind a b d 0 (omega arith) ∙ totals-zero kind a b d

-- of a size n: the row of the smaller sizes, and one component of this size
sized-top : (kind : Kind) (a : ℕ → ℕ) (n : ℕ) → sized kind a (suc n) (suc n) ≡ sized kind a n (suc n) + a (suc n)
sized-top kind a n =
    let t = stepped-top (chosen kind (a (suc n))) (sized kind a n) n in
    let u : chosen kind (a (suc n)) 1 * sized kind a n 0 ≡ a (suc n) * 1 = ap (λ x. x * sized kind a n 0) (chosen-one kind (a (suc n))) ∙ ap (λ x. a (suc n) * x) (sized-zero kind a n) in
    omega (arith, t, u, one_of (chosen kind (a (suc n)) 0) (sized kind a n (suc n)) (chosen-none kind (a (suc n))))

totals-top : (kind : Kind) (a b : ℕ → ℕ) (n : ℕ) → (a (suc n) ≡ 0 → b (suc n) ≡ 0) → sized_totals kind a b (suc n) (suc n) ≡ sized_totals kind a b n (suc n) + b (suc n)
totals-top kind a b n o =
    let t = stepped-top (chosen_totals kind (a (suc n)) (b (suc n))) (sized kind a n) n in
    let s = stepped-top (chosen kind (a (suc n))) (sized_totals kind a b n) n in
    let u : chosen_totals kind (a (suc n)) (b (suc n)) 1 * sized kind a n 0 ≡ b (suc n) * 1 = ap (λ x. x * sized kind a n 0) (charged-one kind (a (suc n)) (b (suc n)) o) ∙ ap (λ x. b (suc n) * x) (sized-zero kind a n) in
    let v : chosen kind (a (suc n)) 1 * sized_totals kind a b n 0 ≡ 0 = ap (λ x. chosen kind (a (suc n)) 1 * x) (totals-zero kind a b n) ∙ mul-zero (chosen kind (a (suc n)) 1) in
    omega (arith, t, s, u, v, none_of (chosen_totals kind (a (suc n)) (b (suc n)) 0) (sized kind a n (suc n)) (charged-none kind (a (suc n)) (b (suc n))), one_of (chosen kind (a (suc n)) 0) (sized_totals kind a b n (suc n)) (chosen-none kind (a (suc n))))

-- A ROW IS ITS PLANE, summed over the numbers of components
pub sized-planes : (kind : Kind) (a : ℕ → ℕ) (d m K : ℕ) → m ≤ K → sum_below (λ k. plane kind a d k m) (suc K) ≡ sized kind a d m
sized-planes kind a zero m K l = sum_below-shift (λ k. plane kind a zero k m) K ∙ (let z : sum_below (λ k. plane kind a zero (suc k) m) K ≡ 0 = sum_below-zero (λ k. plane kind a zero (suc k) m) K (λ k b. refl) in let q : unit m + sum_below (λ k. plane kind a zero (suc k) m) K ≡ unit m = omega (arith, z) in q)
sized-planes kind a (suc d) m K l = stepped-planes (chosen kind (a (suc d))) (plane kind a d) (sized kind a d) d m K l (λ x k b. sized-planes kind a d x k b)

pub totals-planes : (kind : Kind) (a b : ℕ → ℕ) (d m K : ℕ) → m ≤ K → sum_below (λ k. plane_totals kind a b d k m) (suc K) ≡ sized_totals kind a b d m
totals-planes kind a b zero m K l = sum_below-zero (λ k. plane_totals kind a b zero k m) (suc K) (λ k h. refl)
totals-planes kind a b (suc d) m K l =
    let f : ℕ → ℕ → ℕ = λ k j. chosen_totals kind (a (suc d)) (b (suc d)) j * back (j * suc d) (plane kind a d (k - j)) m in
    let g : ℕ → ℕ → ℕ = λ k j. chosen kind (a (suc d)) j * back (j * suc d) (plane_totals kind a b d (k - j)) m in
    let e : sum_below (λ k. sum_below (λ j. f k j + g k j) (suc k)) (suc K) ≡ sum_below (λ k. sum_below (f k) (suc k) + sum_below (g k) (suc k)) (suc K) = sum_below-same (λ k. sum_below (λ j. f k j + g k j) (suc k)) (λ k. sum_below (f k) (suc k) + sum_below (g k) (suc k)) (suc K) (λ k _. sum_below-add (f k) (g k) (suc k)) in
    let r : sum_below (λ k. sum_below (f k) (suc k) + sum_below (g k) (suc k)) (suc K) ≡ sum_below (λ k. sum_below (f k) (suc k)) (suc K) + sum_below (λ k. sum_below (g k) (suc k)) (suc K) = sum_below-add (λ k. sum_below (f k) (suc k)) (λ k. sum_below (g k) (suc k)) (suc K) in
    let u : sum_below (λ k. sum_below (f k) (suc k)) (suc K) ≡ stepped (chosen_totals kind (a (suc d)) (b (suc d))) (sized kind a d) (suc d) m = stepped-planes (chosen_totals kind (a (suc d)) (b (suc d))) (plane kind a d) (sized kind a d) d m K l (λ x k h. sized-planes kind a d x k h) in
    let v : sum_below (λ k. sum_below (g k) (suc k)) (suc K) ≡ stepped (chosen kind (a (suc d))) (sized_totals kind a b d) (suc d) m = stepped-planes (chosen kind (a (suc d))) (plane_totals kind a b d) (sized_totals kind a b d) d m K l (λ x k h. totals-planes kind a b d x k h) in
    e ∙ r ∙ ap (λ x. x + sum_below (λ k. sum_below (g k) (suc k)) (suc K)) u ∙ ap (λ x. stepped (chosen_totals kind (a (suc d)) (b (suc d))) (sized kind a d) (suc d) m + x) v

-- no components have no size
plane-none : (kind : Kind) (a : ℕ → ℕ) (d m : ℕ) → plane kind a d 0 m ≡ unit m
plane-none kind a zero m = refl
plane-none kind a (suc d) m =
    let e : chosen kind (a (suc d)) 0 * back (0 * suc d) (plane kind a d 0) m ≡ plane kind a d 0 m = one_of (chosen kind (a (suc d)) 0) (back (0 * suc d) (plane kind a d 0) m) (chosen-none kind (a (suc d))) ∙ ap (λ s. back s (plane kind a d 0) m) (zero-mul (suc d)) in
    omega (arith, e, plane-none kind a d m)

totals-none : (kind : Kind) (a b : ℕ → ℕ) (d m : ℕ) → plane_totals kind a b d 0 m ≡ 0
totals-none kind a b zero m = refl
totals-none kind a b (suc d) m =
    let e : chosen kind (a (suc d)) 0 * back (0 * suc d) (plane_totals kind a b d 0) m ≡ plane_totals kind a b d 0 m = one_of (chosen kind (a (suc d)) 0) (back (0 * suc d) (plane_totals kind a b d 0) m) (chosen-none kind (a (suc d))) ∙ ap (λ s. back s (plane_totals kind a b d 0) m) (zero-mul (suc d)) in
    omega (arith, e, totals-none kind a b d m, none_of (chosen_totals kind (a (suc d)) (b (suc d)) 0) (back (0 * suc d) (plane kind a d 0) m) (charged-none kind (a (suc d)) (b (suc d))))

-- one component has its own size, and no larger
plane-one : (kind : Kind) (a : ℕ → ℕ) (d m : ℕ) → d < m → plane kind a d 1 m ≡ 0
plane-one kind a zero m h = refl
plane-one kind a (suc d) m h =
    let e : chosen kind (a (suc d)) 0 * back (0 * suc d) (plane kind a d (1 - 0)) m ≡ 0 = ap (λ x. chosen kind (a (suc d)) 0 * back x (plane kind a d (1 - 0)) m) (zero-mul (suc d)) ∙ ap (λ x. chosen kind (a (suc d)) 0 * plane kind a d x m) (let q : 1 - 0 ≡ 1 = omega arith in q) ∙ ap (λ x. chosen kind (a (suc d)) 0 * x) (plane-one kind a d m (omega (arith, h))) ∙ mul-zero (chosen kind (a (suc d)) 0) in
    let f : chosen kind (a (suc d)) 1 * back (1 * suc d) (plane kind a d (1 - 1)) m ≡ 0 = ap (λ x. chosen kind (a (suc d)) 1 * x) (back_there (1 * suc d) (plane kind a d (1 - 1)) m (omega (arith, h)) ∙ ap (λ x. plane kind a d x (m - 1 * suc d)) (let q : 1 - 1 ≡ 0 = omega arith in q) ∙ plane-none kind a d (m - 1 * suc d) ∙ unit_no (m - 1 * suc d) (omega (arith, h))) ∙ mul-zero (chosen kind (a (suc d)) 1) in
    omega (arith, e, f)
  where
    unit_no : (n : ℕ) → 1 ≤ n → unit n ≡ 0
    unit_no zero h = absurd (omega (arith, h))
    unit_no (suc n) h = refl

totals-one : (kind : Kind) (a b : ℕ → ℕ) (d m : ℕ) → d < m → plane_totals kind a b d 1 m ≡ 0
totals-one kind a b zero m h = refl
totals-one kind a b (suc d) m h =
    let c : chosen_totals kind (a (suc d)) (b (suc d)) 0 * back (0 * suc d) (plane kind a d (1 - 0)) m ≡ 0 = none_of (chosen_totals kind (a (suc d)) (b (suc d)) 0) (back (0 * suc d) (plane kind a d (1 - 0)) m) (charged-none kind (a (suc d)) (b (suc d))) in
    let e : chosen kind (a (suc d)) 0 * back (0 * suc d) (plane_totals kind a b d (1 - 0)) m ≡ 0 = ap (λ x. chosen kind (a (suc d)) 0 * back x (plane_totals kind a b d (1 - 0)) m) (zero-mul (suc d)) ∙ ap (λ x. chosen kind (a (suc d)) 0 * plane_totals kind a b d x m) (let q : 1 - 0 ≡ 1 = omega arith in q) ∙ ap (λ x. chosen kind (a (suc d)) 0 * x) (totals-one kind a b d m (omega (arith, h))) ∙ mul-zero (chosen kind (a (suc d)) 0) in
    let f : chosen_totals kind (a (suc d)) (b (suc d)) 1 * back (1 * suc d) (plane kind a d (1 - 1)) m ≡ 0 = ap (λ x. chosen_totals kind (a (suc d)) (b (suc d)) 1 * x) (back_there (1 * suc d) (plane kind a d (1 - 1)) m (omega (arith, h)) ∙ ap (λ x. plane kind a d x (m - 1 * suc d)) (let q : 1 - 1 ≡ 0 = omega arith in q) ∙ plane-none kind a d (m - 1 * suc d) ∙ unit_no (m - 1 * suc d) (omega (arith, h))) ∙ mul-zero (chosen_totals kind (a (suc d)) (b (suc d)) 1) in
    let g : chosen kind (a (suc d)) 1 * back (1 * suc d) (plane_totals kind a b d (1 - 1)) m ≡ 0 = ap (λ x. chosen kind (a (suc d)) 1 * x) (back_there (1 * suc d) (plane_totals kind a b d (1 - 1)) m (omega (arith, h)) ∙ ap (λ x. plane_totals kind a b d x (m - 1 * suc d)) (let q : 1 - 1 ≡ 0 = omega arith in q) ∙ totals-none kind a b d (m - 1 * suc d)) ∙ mul-zero (chosen kind (a (suc d)) 1) in
    omega (arith, c, e, f, g)
  where
    unit_no : (n : ℕ) → 1 ≤ n → unit n ≡ 0
    unit_no zero h = absurd (omega (arith, h))
    unit_no (suc n) h = refl

-- a sum from `low` on, of what is 0 below it
from_low : (f : ℕ → ℕ) (low n : ℕ) → low ≤ suc n → ((i : ℕ) → i < low → f i ≡ 0) → sum_below (λ i. f (low + i)) (suc n - low) ≡ sum_below f (suc n)
from_low f low n l z =
    let e : sum_below f (low + (suc n - low)) ≡ sum_below f low + sum_below (λ i. f (low + i)) (suc n - low) = sum_below-append f low (suc n - low) in
    let c : sum_below f (low + (suc n - low)) ≡ sum_below f (suc n) = ap (sum_below f) (let q : low + (suc n - low) ≡ suc n = omega (arith, l) in q) in
    omega (arith, e, c, sum_below-zero f low z)

-- of few components there is nothing, where a component of the whole size is none
few_none : (kind : Kind) (a : ℕ → ℕ) (low n : ℕ) → low ≤ 2 → (low ≡ 2 → a (suc n) ≡ 0) → (i : ℕ) → i < low → plane kind a (suc n) i (suc n) ≡ 0
few_none kind a low n l z zero h = plane-none kind a (suc n) (suc n)
few_none kind a low n l z (suc zero) h =
    let t : plane kind a (suc n) 1 (suc n) ≡ plane kind a n 1 (suc n) + a (suc n) * 1 = plane-top kind a n 1 in
    omega (arith, t, plane-one kind a n (suc n) (omega arith), z (omega (arith, l, h)))
few_none kind a low n l z (suc (suc i)) h = absurd (omega (arith, l, h))

few_free : (kind : Kind) (a b : ℕ → ℕ) (low n : ℕ) → low ≤ 2 → (a (suc n) ≡ 0 → b (suc n) ≡ 0) → (low ≡ 2 → b (suc n) ≡ 0) → (i : ℕ) → i < low → plane_totals kind a b (suc n) i (suc n) ≡ 0
few_free kind a b low n l o z zero h = totals-none kind a b (suc n) (suc n)
few_free kind a b low n l o z (suc zero) h =
    let e : alone (b (suc n)) 1 ≡ 0 = ap (λ x. alone x 1) (z (omega (arith, l, h))) ∙ alone_none 1 in
    omega (arith, total-top kind a b n 1 o, totals-one kind a b n (suc n) (omega arith), e)
few_free kind a b low n l o z (suc (suc i)) h = absurd (omega (arith, l, h))

-- THE NUMBER at a size
pub number_by_row : (kind : Kind) (a : ℕ → ℕ) (low n : ℕ) → IsOfParts kind → low ≤ 2 → (low ≡ 2 → a n ≡ 0) → coll_count Unlabelled kind a low None n ≡ count_any low kind a (a n) n
number_by_row kind a zero zero p l z = of_kind kind a 0 None 0 p
number_by_row kind a (suc low) zero p l z = of_kind kind a (suc low) None 0 p ∙ none (suc low) (omega arith)
  where
    none : (x : ℕ) → 1 ≤ x → sum_below (λ i. plane kind a 0 (x + i) 0) (1 - x) ≡ 1 - x
    none x h = ap (sum_below (λ i. plane kind a 0 (x + i) 0)) (let q : 1 - x ≡ 0 = omega (arith, h) in q) ∙ (let q : 0 ≡ 1 - x = omega (arith, h) in q)
number_by_row kind a low (suc n) p l z =
    of_kind kind a low None (suc n) p ∙ from_low (λ k. plane kind a (suc n) k (suc n)) low (suc n) (omega (arith, l)) (few_none kind a low n l z) ∙ sized-planes kind a (suc n) (suc n) (suc n) (omega arith) ∙ sized-top kind a n

-- THE CHARGES at a size
pub total_by_row : (kind : Kind) (a b : ℕ → ℕ) (low n : ℕ) → IsOfParts kind → low ≤ 2 → b 0 ≡ 0 → (a n ≡ 0 → b n ≡ 0) → (low ≡ 2 → b n ≡ 0) → coll_total Unlabelled kind a b low None n ≡ sized_totals kind a b (n - 1) n + b n
total_by_row kind a b low zero p l z o e =
    totals_of_kind kind a b low None 0 p ∙ sum_below-zero (λ i. plane_totals kind a b 0 (low + i) 0) (suc 0 - low) (λ i h. refl) ∙ (let q : 0 ≡ sized_totals kind a b (0 - 1) 0 + b 0 = omega (arith, totals-zero kind a b (0 - 1), z) in q)
total_by_row kind a b low (suc n) p l z o e =
    totals_of_kind kind a b low None (suc n) p ∙ from_low (λ k. plane_totals kind a b (suc n) k (suc n)) low (suc n) (omega (arith, l)) (few_free kind a b low n l o e) ∙ totals-planes kind a b (suc n) (suc n) (suc n) (omega arith) ∙ totals-top kind a b n o
    ∙ ap (λ d. sized_totals kind a b d (suc n) + b (suc n)) (let q : n ≡ suc n - 1 = omega arith in q)
