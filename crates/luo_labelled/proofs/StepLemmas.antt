-- The numbers at a step from those at the step before it.
use Rattle.std.proofs.Common.{◌≡◌, ℕ, zero, suc, ◌+◌, ◌*◌, ◌-◌, ◌≤◌, ◌<◌, ◌⊎◌, ⊎_elim, inl, inr, Bool, true, false, Option, Some, None, refl, sym, ◌∙◌, ap, subst, arith}
use Rattle.std.proofs.Math.Nat.{mul-zero, zero-mul, mul-add}
use Rattle.luo_finite.specs.Range.{sum_below, unit}
use Rattle.luo_finite.proofs.Ranges.{sum_below-same, sum_below-shift, sum_below-zero, sum_below-add}
use Rattle.luo_model.specs.declared.program.Universe.TheVariants.{Labelled}
use Rattle.luo_model.specs.declared.program.Kind.{Kind}
use Rattle.luo_model.specs.declared.program.Kind.TheVariants.{Sequence, Set, Cycle, Multiset, Powerset}
use Rattle.luo_counting.specs.Numbers.{of_k, totals_of_k, terms, coll_count, coll_total}
use Rattle.luo_labelled.specs.declared.steps.Steps.{Steps}
use Rattle.luo_labelled.specs.inner.Steps.{rest_of, is_led, joined, one_less, AllowsOne, most_at, step_count, step_total, IsOpen, up_to, empty_at, HasSource}
use Rattle.luo_labelled.proofs.FirstLemmas.{IsChained, rest_chained, joined_same, joined_sums, of_first, totals_first, of_many, totals_many, at_least, at_most, allowed, bounded_all}

-- one component less
least_less : (low k : ℕ) → at_least low (suc k) ≡ at_least (low - 1) k
least_less zero k = refl
least_less (suc low) k = ap (λ i. at_least i k) (let q : low ≡ suc low - 1 = omega arith in q)

most_less : (high : Option ℕ) (k : ℕ) → AllowsOne high → at_most high (suc k) ≡ at_most (one_less high) k
most_less None k h = refl
most_less (Some zero) k h = absurd (omega arith)
most_less (Some (suc h)) k l = ap (λ i. at_most (Some i) k) (let q : h ≡ suc h - 1 = omega arith in q)

allowed_less : (low : ℕ) (high : Option ℕ) (k : ℕ) → AllowsOne high → allowed low high (suc k) ≡ allowed (low - 1) (one_less high) k
allowed_less low high k h = ap (λ i. i * at_most high (suc k)) (least_less low k) ∙ ap (λ i. at_least (low - 1) k * i) (most_less high k h)

most_none : (high : Option ℕ) → at_most high 0 ≡ 1
most_none None = refl
most_none (Some h) = refl

module _ (kind : Kind) (s : IsChained kind) (a : ℕ → ℕ) (z : a 0 ≡ 0) where
  -- the first, or none
  abbrev none_of : ℕ → Option ℕ → ℕ → ℕ
  none_of low high n = allowed low high 0 * of_k Labelled kind a 0 n

  all_counts : (k : Kind) → IsChained k → (low : ℕ) (high : Option ℕ) (n T : ℕ) → suc n ≤ T → coll_count Labelled k a low high n ≡ sum_below (λ i. allowed low high i * of_k Labelled k a i n) T
  unfolding coll_count
  all_counts k c low high n T h = bounded_all (λ i. of_k Labelled k a i n) n (λ i l. of_many k a i n c z l) low high T h

  pub count_first : (low : ℕ) (high : Option ℕ) (n : ℕ) → AllowsOne high
      → coll_count Labelled kind a low high n ≡ none_of low high n + joined (is_led kind) a (λ m. coll_count Labelled (rest_of kind) a (low - 1) (one_less high) m) n
  count_first low high n h =
      let f : ℕ → ℕ = λ k. allowed low high k * of_k Labelled kind a k n in
      let c : ℕ → ℕ = allowed (low - 1) (one_less high) in
      let V : ℕ → ℕ → ℕ = λ k m. of_k Labelled (rest_of kind) a k m in
      let e1 : coll_count Labelled kind a low high n ≡ sum_below f (suc (suc n)) = all_counts kind s low high n (suc (suc n)) (omega arith) in
      let e2 : sum_below f (suc (suc n)) ≡ f 0 + sum_below (λ k. f (suc k)) (suc n) = sum_below-shift f (suc n) in
      let e3 : sum_below (λ k. f (suc k)) (suc n) ≡ sum_below (λ k. c k * joined (is_led kind) a (V k) n) (suc n) =
      sum_below-same (λ k. f (suc k)) (λ k. c k * joined (is_led kind) a (V k) n) (suc n)
      (λ k l. ap (λ i. i * of_k Labelled kind a (suc k) n) (allowed_less low high k h) ∙ ap (λ i. c k * i) (of_first kind a k n s z)) in
      let e4 : sum_below (λ k. c k * joined (is_led kind) a (V k) n) (suc n) ≡ joined (is_led kind) a (λ m. sum_below (λ k. c k * V k m) (suc n)) n = joined_sums (is_led kind) a c V n (suc n) in
      let e5 : joined (is_led kind) a (λ m. sum_below (λ k. c k * V k m) (suc n)) n ≡ joined (is_led kind) a (λ m. coll_count Labelled (rest_of kind) a (low - 1) (one_less high) m) n =
      joined_same (is_led kind) a a (λ m. sum_below (λ k. c k * V k m) (suc n)) (λ m. coll_count Labelled (rest_of kind) a (low - 1) (one_less high) m) n (λ m l. refl)
      (λ m l. sym (all_counts (rest_of kind) (rest_chained kind) (low - 1) (one_less high) m (suc n) (omega (arith, l)))) in
      omega (arith, e1, e2, e3, e4, e5)

  pub count_none : (low n : ℕ) → coll_count Labelled kind a low (Some 0) n ≡ none_of low (Some 0) n
  count_none low n =
      let f : ℕ → ℕ = λ k. allowed low (Some 0) k * of_k Labelled kind a k n in
      let e1 : coll_count Labelled kind a low (Some 0) n ≡ sum_below f (suc (suc n)) = all_counts kind s low (Some 0) n (suc (suc n)) (omega arith) in
      let e2 : sum_below f (suc (suc n)) ≡ f 0 + sum_below (λ k. f (suc k)) (suc n) = sum_below-shift f (suc n) in
      let e3 : sum_below (λ k. f (suc k)) (suc n) ≡ 0 = sum_below-zero (λ k. f (suc k)) (suc n) (λ k l. ap (λ i. i * of_k Labelled kind a (suc k) n) (mul-zero (at_least low (suc k))) ∙ zero-mul (of_k Labelled kind a (suc k) n)) in
      omega (arith, e1, e2, e3)

  module _ (b : ℕ → ℕ) (y : b 0 ≡ 0) where
    all_totals : (k : Kind) → IsChained k → (low : ℕ) (high : Option ℕ) (n T : ℕ) → suc n ≤ T → coll_total Labelled k a b low high n ≡ sum_below (λ i. allowed low high i * totals_of_k Labelled k a b i n) T
    unfolding coll_total
    all_totals k c low high n T h = bounded_all (λ i. totals_of_k Labelled k a b i n) n (λ i l. totals_many k a b i n c z y l) low high T h

    no_total : (k : Kind) → IsChained k → (n : ℕ) → totals_of_k Labelled k a b 0 n ≡ 0
    no_total Sequence c n = refl
    no_total Set c n = refl
    no_total Cycle c n = refl
    no_total Multiset c n = absurd c
    no_total Powerset c n = absurd c

    pub total_first : (low : ℕ) (high : Option ℕ) (n : ℕ) → AllowsOne high → coll_total Labelled kind a b low high n
        ≡ joined (is_led kind) b (λ m. coll_count Labelled (rest_of kind) a (low - 1) (one_less high) m) n + joined (is_led kind) a (λ m. coll_total Labelled (rest_of kind) a b (low - 1) (one_less high) m) n
    total_first low high n h =
        let f : ℕ → ℕ = λ k. allowed low high k * totals_of_k Labelled kind a b k n in
        let c : ℕ → ℕ = allowed (low - 1) (one_less high) in
        let V : ℕ → ℕ → ℕ = λ k m. of_k Labelled (rest_of kind) a k m in
        let U : ℕ → ℕ → ℕ = λ k m. totals_of_k Labelled (rest_of kind) a b k m in
        let led = is_led kind in
        let e1 : coll_total Labelled kind a b low high n ≡ sum_below f (suc (suc n)) = all_totals kind s low high n (suc (suc n)) (omega arith) in
        let e2 : sum_below f (suc (suc n)) ≡ f 0 + sum_below (λ k. f (suc k)) (suc n) = sum_below-shift f (suc n) in
        let e0 : f 0 ≡ 0 = ap (λ i. allowed low high 0 * i) (no_total kind s n) ∙ mul-zero (allowed low high 0) in
        let e3 : sum_below (λ k. f (suc k)) (suc n) ≡ sum_below (λ k. c k * joined led b (V k) n + c k * joined led a (U k) n) (suc n) =
        sum_below-same (λ k. f (suc k)) (λ k. c k * joined led b (V k) n + c k * joined led a (U k) n) (suc n)
        (λ k l. ap (λ i. i * totals_of_k Labelled kind a b (suc k) n) (allowed_less low high k h) ∙ ap (λ i. c k * i) (totals_first kind a b k n s z y) ∙ mul-add (c k) (joined led b (V k) n) (joined led a (U k) n)) in
        let e4 : sum_below (λ k. c k * joined led b (V k) n + c k * joined led a (U k) n) (suc n) ≡ sum_below (λ k. c k * joined led b (V k) n) (suc n) + sum_below (λ k. c k * joined led a (U k) n) (suc n) =
        sum_below-add (λ k. c k * joined led b (V k) n) (λ k. c k * joined led a (U k) n) (suc n) in
        let e5 = joined_sums led b c V n (suc n) in
        let e6 = joined_sums led a c U n (suc n) in
        let e7 : joined led b (λ m. sum_below (λ k. c k * V k m) (suc n)) n ≡ joined led b (λ m. coll_count Labelled (rest_of kind) a (low - 1) (one_less high) m) n =
        joined_same led b b (λ m. sum_below (λ k. c k * V k m) (suc n)) (λ m. coll_count Labelled (rest_of kind) a (low - 1) (one_less high) m) n (λ m l. refl)
        (λ m l. sym (all_counts (rest_of kind) (rest_chained kind) (low - 1) (one_less high) m (suc n) (omega (arith, l)))) in
        let e8 : joined led a (λ m. sum_below (λ k. c k * U k m) (suc n)) n ≡ joined led a (λ m. coll_total Labelled (rest_of kind) a b (low - 1) (one_less high) m) n =
        joined_same led a a (λ m. sum_below (λ k. c k * U k m) (suc n)) (λ m. coll_total Labelled (rest_of kind) a b (low - 1) (one_less high) m) n (λ m l. refl)
        (λ m l. sym (all_totals (rest_of kind) (rest_chained kind) (low - 1) (one_less high) m (suc n) (omega (arith, l)))) in
        omega (arith, e1, e2, e0, e3, e4, e5, e6, e7, e8)

    pub total_none : (low n : ℕ) → coll_total Labelled kind a b low (Some 0) n ≡ 0
    total_none low n =
        let f : ℕ → ℕ = λ k. allowed low (Some 0) k * totals_of_k Labelled kind a b k n in
        let e1 : coll_total Labelled kind a b low (Some 0) n ≡ sum_below f (suc (suc n)) = all_totals kind s low (Some 0) n (suc (suc n)) (omega arith) in
        let e2 : sum_below f (suc (suc n)) ≡ 0 = sum_below-zero f (suc (suc n)) (λ k l. none k) in
        e1 ∙ e2
      where
        none : (k : ℕ) → allowed low (Some 0) k * totals_of_k Labelled kind a b k n ≡ 0
        none zero = ap (λ i. allowed low (Some 0) 0 * i) (no_total kind s n) ∙ mul-zero (allowed low (Some 0) 0)
        none (suc k) = ap (λ i. i * totals_of_k Labelled kind a b (suc k) n) (mul-zero (at_least low (suc k))) ∙ zero-mul (totals_of_k Labelled kind a b (suc k) n)

-- none at a step
least_up_to : (free i : ℕ) → at_least (i - free) 0 ≡ up_to free i
least_up_to free zero = ap (λ m. at_least m 0) (let q : 0 - free ≡ 0 = omega arith in q)
least_up_to zero (suc i) = ap (λ m. at_least m 0) (let q : suc i - 0 ≡ suc i = omega arith in q)
least_up_to (suc free) (suc i) = ap (λ m. at_least m 0) (let q : suc i - suc free ≡ i - free = omega arith in q) ∙ least_up_to free i

pub past_up_to : (free i : ℕ) → free < i → up_to free i ≡ 0
past_up_to free zero h = absurd (omega arith)
past_up_to zero (suc i) h = refl
past_up_to (suc free) (suc i) h = past_up_to free i (omega arith)

none_at : (kind : Kind) (a : ℕ → ℕ) (free i n : ℕ) (high : Option ℕ) → IsChained kind → IsOpen kind free i → allowed (i - free) high 0 * of_k Labelled kind a 0 n ≡ empty_at free i n
none_at kind a free i n high s o = ap (λ m. (m * at_most high 0) * of_k Labelled kind a 0 n) (least_up_to free i) ∙ ap (λ m. (up_to free i * m) * of_k Labelled kind a 0 n) (most_none high) ∙ by kind s o n
  where
    by_unit : (x n : ℕ) → x * 1 * unit n ≡ x * unit n
    by_unit x n = ap (λ m. m * unit n) (let q : x * 1 ≡ x = omega arith in q)

    unit_empty : (n : ℕ) → up_to free i * unit n ≡ empty_at free i n
    unit_empty zero = let q : up_to free i * 1 ≡ up_to free i = omega arith in q
    unit_empty (suc n) = mul-zero (up_to free i)

    none_empty : (n : ℕ) → up_to free i ≡ 0 → 0 ≡ empty_at free i n
    none_empty zero e = sym e
    none_empty (suc n) e = refl

    set_unit : (n : ℕ) → of_k Labelled Set a 0 n ≡ unit n
    set_unit zero = refl
    set_unit (suc n) = refl

    by : (kind : Kind) → IsChained kind → IsOpen kind free i → (n : ℕ) → up_to free i * 1 * of_k Labelled kind a 0 n ≡ empty_at free i n
    by Sequence s o n = by_unit (up_to free i) n ∙ unit_empty n
    by Set s o n = ap (λ m. up_to free i * 1 * m) (set_unit n) ∙ by_unit (up_to free i) n ∙ unit_empty n
    by Cycle s o n = mul-zero (up_to free i * 1) ∙ none_empty n (past_up_to free i o)
    by Multiset s o n = absurd s
    by Powerset s o n = absurd s

source_allows : (unbounded : Bool) (i : ℕ) → HasSource unbounded i → AllowsOne (most_at unbounded i)
source_allows true i h = tt
source_allows false i h = h

most_before : (unbounded : Bool) (i : ℕ) → one_less (most_at unbounded i) ≡ most_at unbounded (i - 1)
most_before true i = refl
most_before false i = refl

less_free : (i free : ℕ) → i - free - 1 ≡ i - 1 - free
less_free i free = omega arith

-- THE LAWS of a step
pub step_first : (s : Steps) (kind : Kind) (a : ℕ → ℕ) (i n : ℕ) → IsChained kind → a 0 ≡ 0 → IsOpen kind s.free i → HasSource s.unbounded i
    → step_count s kind a i n ≡ empty_at s.free i n + joined (is_led kind) a (step_count s (rest_of kind) a (i - 1)) n
step_first s kind a i n c z o h =
    count_first kind c a z (i - s.free) (most_at s.unbounded i) n (source_allows s.unbounded i h)
    ∙ ap (λ m. m + joined (is_led kind) a (λ m. coll_count Labelled (rest_of kind) a (i - s.free - 1) (one_less (most_at s.unbounded i)) m) n) (none_at kind a s.free i n (most_at s.unbounded i) c o)
    ∙ ap (λ l. empty_at s.free i n + joined (is_led kind) a (λ m. coll_count Labelled (rest_of kind) a l (one_less (most_at s.unbounded i)) m) n) (less_free i s.free)
    ∙ ap (λ t. empty_at s.free i n + joined (is_led kind) a (λ m. coll_count Labelled (rest_of kind) a (i - 1 - s.free) t m) n) (most_before s.unbounded i)

pub step_none : (s : Steps) (kind : Kind) (a : ℕ → ℕ) (i n : ℕ) → IsChained kind → a 0 ≡ 0 → IsOpen kind s.free i → s.unbounded ≡ false → i ≡ 0 → step_count s kind a i n ≡ empty_at s.free i n
step_none s kind a i n c z o u e =
    ap (λ t. coll_count Labelled kind a (i - s.free) t n) (ap (λ t. most_at t i) u ∙ ap Some e)
    ∙ count_none kind c a z (i - s.free) n ∙ none_at kind a s.free i n (Some 0) c o

pub step_total_first : (s : Steps) (kind : Kind) (a b : ℕ → ℕ) (i n : ℕ) → IsChained kind → a 0 ≡ 0 → b 0 ≡ 0 → HasSource s.unbounded i
    → step_total s kind a b i n ≡ joined (is_led kind) b (step_count s (rest_of kind) a (i - 1)) n + joined (is_led kind) a (step_total s (rest_of kind) a b (i - 1)) n
step_total_first s kind a b i n c z y h =
    total_first kind c a z b y (i - s.free) (most_at s.unbounded i) n (source_allows s.unbounded i h)
    ∙ ap (λ l. joined (is_led kind) b (λ m. coll_count Labelled (rest_of kind) a l (one_less (most_at s.unbounded i)) m) n + joined (is_led kind) a (λ m. coll_total Labelled (rest_of kind) a b l (one_less (most_at s.unbounded i)) m) n) (less_free i s.free)
    ∙ ap (λ t. joined (is_led kind) b (λ m. coll_count Labelled (rest_of kind) a (i - 1 - s.free) t m) n + joined (is_led kind) a (λ m. coll_total Labelled (rest_of kind) a b (i - 1 - s.free) t m) n) (most_before s.unbounded i)

pub step_total_none : (s : Steps) (kind : Kind) (a b : ℕ → ℕ) (i n : ℕ) → IsChained kind → a 0 ≡ 0 → b 0 ≡ 0 → s.unbounded ≡ false → i ≡ 0 → step_total s kind a b i n ≡ 0
step_total_none s kind a b i n c z y u e =
    ap (λ t. coll_total Labelled kind a b (i - s.free) t n) (ap (λ t. most_at t i) u ∙ ap Some e) ∙ total_none kind c a z b y (i - s.free) n
